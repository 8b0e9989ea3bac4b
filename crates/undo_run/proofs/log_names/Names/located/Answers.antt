-- One log after another.
use Rattle.std.proofs.Common.{◌≡◌, ◌+◌, ◌∷◌, List, ℕ, drop, map, sym, ap, ◌∙◌, arith}
use Rattle.std.proofs.lemmas.Option.{slice_get_read}
use Rattle.blog_trans.proofs.Turns.{drop-at}
use Rattle.undo_run.specs.Several.{Located, located_among}
use Rattle.undo_run.specs.code.NamesView.{begun_told, located_told}
use Rattle.undo_run.specs.declared.log_names.Begun as begun
use Rattle.undo_run.proofs.log_names.Names.located.Goals as goal

pub loop-n-preserved : goal.loop-n-preserved
loop-n-preserved g c =
    let more : List begun.Begun = c.args.self.now.more.items in
    let n : ℕ = c.loop-n.n in
    let b : begun.Begun = c.index.result.now in
    let here = slice_get_read more c.args.self.now.more.len n b c.args.self.now.more.ok.0 (omega (arith, c.loop-n-test.true, c.len-n-end.ensures)) c.index.ensures in
    let next : drop n more ≡ b ∷ drop (n + 1) more = drop-at more n b here in
    ap (λ (l : Located). located_among l (map begun_told (drop (n + 1) more)) c.args.place) c.located_by-so_far.ensures
    ∙ ap (λ (bs : List begun.Begun). located_among (located_told c.loop-n.so_far) (map begun_told bs) c.args.place) (sym next)
    ∙ c.loop-n.invariant
