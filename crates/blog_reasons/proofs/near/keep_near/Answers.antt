use Rattle.std.proofs.Common.{ap, arith, length, subst, sym}
use Rattle.std.specs.Prelude.{Contains}
use Rattle.blog_reasons.proofs.SeenTables.{near-kept}
use Rattle.blog_reasons.proofs.near.keep_near.Goals as goal

pub returns : goal.returns
returns g c = λ tables named are.
    near-kept tables c.args.near.now.items c.truncate.new.self.items c.insert.new.self.items c.place_of-place.result c.in_ok-copy.copy
    (subst (Contains tables) (sym c.in_ok-copy.ensures) named) c.truncate.ensures.items c.in_ok-insert.ensures.items
    (omega (arith, c.place_of-place.ensures, ap length c.deref.ensures.value)) (omega arith) are
