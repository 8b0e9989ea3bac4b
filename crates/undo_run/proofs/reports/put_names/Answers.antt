-- One name after another.
use Rattle.std.proofs.Common.{◌≡◌, ◌+◌, ◌∷◌, ◌++◌, List, ℕ, drop, map, sym, ap, ◌∙◌, append_assoc, arith}
use Rattle.std.specs.List.{flat_map}
use Rattle.blog_text.specs.Escapes.{escaped}
use Rattle.std.proofs.lemmas.Option.{slice_get_read}
use Rattle.blog_trans.proofs.Turns.{drop-at}
use Rattle.undo_run.specs.Reports.{next_name}
use Rattle.undo_run.specs.code.NamesView.{begun_told}
use Rattle.undo_run.specs.declared.log_names.Begun as begun
use Rattle.undo_run.proofs.reports.put_names.Goals as goal

pub loop-n-init : goal.loop-n-init
loop-n-init g c =
    let more : List begun.Begun = c.args.logs.now.more.items in
    ap (λ (out : List ℕ). out ++ flat_map next_name (map begun_told more)) c.in_ok-put_escaped.ensures
    ∙ append_assoc c.args.out.now.items (escaped c.args.logs.now.first.now) (flat_map next_name (map begun_told more))

pub loop-n-preserved : goal.loop-n-preserved
loop-n-preserved g c =
    let more : List begun.Begun = c.args.logs.now.more.items in
    let n : ℕ = c.loop-n.n in
    let b : begun.Begun = c.index.result.now in
    let here = slice_get_read more c.args.logs.now.more.len n b c.args.logs.now.more.ok.0 (omega (arith, c.loop-n-test.true, c.len-n-end.ensures)) c.index.ensures in
    let next : drop n more ≡ b ∷ drop (n + 1) more = drop-at more n b here in
    ap (λ (out : List ℕ). out ++ flat_map next_name (map begun_told (drop (n + 1) more))) c.in_ok-put_next_name.ensures
    ∙ append_assoc c.loop-n.out.items (next_name (begun_told b)) (flat_map next_name (map begun_told (drop (n + 1) more)))
    ∙ ap (λ (bs : List begun.Begun). c.loop-n.out.items ++ flat_map next_name (map begun_told bs)) (sym next)
    ∙ c.loop-n.invariant
