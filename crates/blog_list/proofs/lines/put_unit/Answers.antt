use Rattle.std.proofs.Common.{ℕ, List, ◌++◌, length, refl, ap, ap₂, ◌∙◌}
use Rattle.std.specs.Prelude.{string_bytes}
use Rattle.std.proofs.lemmas.Result.{on_ok_weaker}
use Rattle.blog_event.specs.code.LogView.{log_bytes}
use Rattle.blog_list.specs.Lines.{Shown, in_column, positions_text, rest_text, room_beside, unit_line}
use Rattle.blog_list.specs.code.Told.{shown_told, source_place}
use Rattle.blog_text.proofs.Growing.{both-parts}
use Rattle.blog_list.proofs.Growing.{in-its-column}
use Rattle.blog_list.proofs.lines.put_unit.Goals as goal

pub returns : goal.returns
unfolding unit_line
returns g c =
    let s : Shown = shown_told (log_bytes c.args.log.now) (source_place c.args.source.now) c.args.unit.now in
    let width : ℕ = length c.args.times.now.heading.items in
    let time : List ℕ = c.in_ok-put_time.ensures.0 in
    let behind : List ℕ = in_column width time ++ rest_text c.args.gtids (room_beside width) s in
    let old : List ℕ = c.args.out.now.items in
    let one : List ℕ = c.put_positions.new.out.items in
    let two : List ℕ = c.put_time.new.out.items in
    let new : List ℕ = c.put_rest.new.out.items in
    on_ok_weaker c.put_rest.result
    (λ rest. (
      unit_line c.args.gtids width time s,
      (time, c.in_ok-put_time.ensures.1, refl),
      both-parts old one new _ _ c.in_ok-put_positions.ensures (both-parts one two new _ _ (in-its-column width one time two c.in_ok-put_time.ensures.2)
          (rest ∙ ap (λ (room : ℕ). two ++ rest_text c.args.gtids room s) c.room.ensures.room))
          ∙ ap₂ (λ (start stop : ℕ). old ++ (positions_text start stop ++ behind)) c.place.ensures c.place-2.ensures,
    ))
    c.put_rest.ensures
