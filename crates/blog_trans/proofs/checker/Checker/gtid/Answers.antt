use Rattle.std.proofs.Common.{◌≡◌, true, rules, sym, ap, ◌∙◌, refl}
use Rattle.blog_trans.specs.declared.place.Place.TheVariants.{AfterGtid}
use Rattle.blog_trans.specs.Places.{is_outside, place}
use Rattle.blog_trans.proofs.Checking.{knows-quiet}
use Rattle.blog_trans.proofs.checker.Checker.gtid.Goals as goal

pub returns-clause-checked : goal.returns-clause-checked
returns-clause-checked g c = λ sel e is earlier h.
    let now : is_outside c.args.self.now.place ≡ true = search rules in
    let out : is_outside (place earlier) ≡ true = ap is_outside (sym h.place_is) ∙ now in
    (rw (is, out) refl, knows-quiet sel _ earlier c.args.self.now AfterGtid (rw is refl) (rw is refl) (rw is refl) (rw is refl) h)
