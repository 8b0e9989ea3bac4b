use Rattle.std.proofs.Common.{ℕ, List, ◌++◌, refl, ap, ◌∙◌}
use Rattle.std.specs.Prelude.{codes, option_copied}
use Rattle.std.proofs.lemmas.Result.{on_ok_weaker}
use Rattle.blog_event.specs.code.LogView.{log_bytes}
use Rattle.blog_list.specs.Json.{json_line}
use Rattle.blog_list.specs.Lines.{Shown, numbered}
use Rattle.blog_list.specs.code.Told.{shown_told, source_place}
use Rattle.blog_text.proofs.Growing.{both-parts}
use Rattle.blog_list.proofs.json.put_unit.Goals as goal

pub returns : goal.returns
unfolding json_line
returns g c =
    let s : Shown = shown_told (log_bytes c.args.log.now) (source_place c.args.source.now) c.args.unit.now in
    let time : List ℕ = c.in_ok-put_time.ensures.0 in
    let old : List ℕ = c.args.out.now.items in
    let one : List ℕ = c.put_text.new.out.items in
    let two : List ℕ = c.put_log_name.new.out.items in
    let three : List ℕ = c.put_numbered.new.out.items in
    let four : List ℕ = c.put_numbered-2.new.out.items in
    let five : List ℕ = c.put_time.new.out.items in
    let six : List ℕ = c.put_thread.new.out.items in
    let seven : List ℕ = c.put_gtid.new.out.items in
    let eight : List ℕ = c.put_changes.new.out.items in
    let new : List ℕ = c.put_text-2.new.out.items in
    let start = c.in_ok-put_numbered.ensures ∙ ap (λ (n : ℕ). two ++ numbered (codes "\"start\":") n) (c.from.ensures ∙ c.place.ensures) in
    let stop = c.in_ok-put_numbered-2.ensures ∙ ap (λ (n : ℕ). three ++ numbered (codes ",\"stop\":") n) (c.from-2.ensures ∙ c.place-2.ensures) in
    on_ok_weaker c.put_text-2.result
    (λ last. (
      json_line (option_copied c.args.name) time s,
      (time, c.in_ok-put_time.ensures.1, refl),
      both-parts old one new _ _ c.in_ok-put_text.ensures (both-parts one two new _ _ c.in_ok-put_log_name.ensures
          (both-parts two three new _ _ start (both-parts three four new _ _ stop
          (both-parts four five new _ _ c.in_ok-put_time.ensures.2 (both-parts five six new _ _ c.in_ok-put_thread.ensures
          (both-parts six seven new _ _ c.in_ok-put_gtid.ensures (both-parts seven eight new _ _ c.in_ok-put_changes.ensures last))))))),
    ))
    c.put_text-2.ensures
