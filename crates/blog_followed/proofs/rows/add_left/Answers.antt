use Rattle.std.proofs.Common.{◌≡◌, ◌++◌, ◌∷◌, ℕ, List, Option, Some, None, option_map, subst, ap, refl}
use Rattle.std.specs.List.{cons_option}
use Rattle.blog_later.specs.Prints.{HavePrints}
use Rattle.blog_followed.specs.code.KeptView.{image_print}
use Rattle.blog_followed.proofs.Fingerprints.{alike-along}
use Rattle.blog_followed.proofs.OneRow.{on-ok}
use Rattle.blog_followed.proofs.Sets.{more-kept}
use Rattle.blog_followed.proofs.rows.add_left.Goals as goal

pub returns-in-Some : goal.returns-in-Some
returns-in-Some g c = λ these.
    let body = c.args.table.now.body.now in
    let old = c.args.prints.now.keys in
    let new = c.add_print.new.prints.keys in
    let print = image_print body c.in-Some.image.now in
    let is : option_map (λ image. image.now) c.args.after ≡ Some c.in-Some.image.now = ap (option_map (λ image. image.now)) c.in-Some.is in
    on-ok c.add_print.result _ _
    (λ put. alike-along _ _ (print ∷ (these ++ old)) (these ++ new) (ap (λ (o : Option (List ℕ)). cons_option (option_map (image_print body) o) (these ++ old)) is) refl
    (subst (λ n. HavePrints (n ∷ (these ++ old)) (these ++ new)) c.print.ensures (more-kept these old new c.print.result put))) c.add_print.ensures

pub returns-in-None : goal.returns-in-None
returns-in-None g c = λ these.
    let body = c.args.table.now.body.now in
    let old = c.args.prints.now.keys in
    let is : option_map (λ image. image.now) c.args.after ≡ None = ap (option_map (λ image. image.now)) c.in-None.is in
    alike-along _ _ (these ++ old) (these ++ old) (ap (λ (o : Option (List ℕ)). cons_option (option_map (image_print body) o) (these ++ old)) is) refl (λ p. refl)
