use Rattle.std.proofs.Common.{sym, ◌∙◌, eq-eqb}
use Rattle.std.proofs.lemmas.Bool.{and_from, cond-true, lt-ltb}
use Rattle.std.proofs.lemmas.List.{take_rest}
use Rattle.blog_units.proofs.unit.tag_of.Goals as goal

pub returns-then-body-eq42 : goal.returns-then-body-eq42
returns-then-body-eq42 c =
    take_rest c.args.body.now 26 ∙ sym (cond-true _ _ _ (and_from _ _ (lt-ltb _ _ c.if-body-gt26.true) (eq-eqb _ _ c.if-body-eq42.true)))
