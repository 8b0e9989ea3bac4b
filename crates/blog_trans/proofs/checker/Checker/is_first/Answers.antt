use Rattle.std.proofs.Common.{◌≡◌, true, false, not, rules, refl, sym, ap, ◌∙◌}
use Rattle.std.specs.Prelude.{bytes_eq}
use Rattle.blog_trans.specs.Places.{placed}
use Rattle.blog_trans.proofs.CheckingMaps.{compare-held}
use Rattle.blog_trans.proofs.checker.Checker.is_first.Goals as goal

pub returns-in-Some-clause-compared : goal.returns-in-Some-clause-compared
returns-in-Some-clause-compared g c = λ sel statement earlier h.
    let other : bytes_eq c.in-Some.known.now.body.now c.args.event.now.body.now ≡ false = search rules in
    let told = compare-held sel statement earlier (placed c.args.event.now) _ _ _ _ c.are_bytes.ensures c.requires c.id.ensures h (sym c.in-Some.ensures.value) in
    (told.0 ∙ ap not other, refl)

pub returns-in-Some-2-clause-compared : goal.returns-in-Some-2-clause-compared
returns-in-Some-2-clause-compared g c = λ sel statement earlier h.
    let same : bytes_eq c.in-Some.known.now.body.now c.args.event.now.body.now ≡ true = search rules in
    let told = compare-held sel statement earlier (placed c.args.event.now) _ _ _ _ c.are_bytes.ensures c.requires c.id.ensures h (sym c.in-Some.ensures.value) in
    (told.0 ∙ ap not same, told.1)

pub returns-in-None-clause-compared : goal.returns-in-None-clause-compared
returns-in-None-clause-compared g c = λ sel statement earlier h.
    compare-held sel statement earlier (placed c.args.event.now) _ _ _ _ c.are_bytes.ensures c.requires c.id.ensures h (sym c.in-None.ensures.value)
