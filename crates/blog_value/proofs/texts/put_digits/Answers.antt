use Rattle.std.proofs.Common.{◌≡◌, ℕ, suc, List, ◌+◌, ◌-◌, ◌++◌, drop, ap, subst, ◌∙◌, arith}
use Rattle.std.proofs.Math.ListN.{length-set}
use Rattle.std.proofs.lemmas.Result.{on_ok_weaker}
use Rattle.blog_value.specs.Digits.{in_digits}
use Rattle.blog_value.proofs.Digits.{all-written, one-written, to-end}
use Rattle.blog_value.proofs.texts.put_digits.Goals as goal

pub places-preserved : goal.places-preserved
places-preserved g c =
    let k : ℕ = c.places.place - 1 - (64 - c.args.width) in
    let more : c.places.place - (64 - c.args.width) ≡ suc k = omega (arith, c.places-test.true) in
    let behind : c.places.place ≡ c.places.place - 1 + 1 = omega (arith, c.places-test.true) in
    record {
      text = one-written c.args.base k (c.places.place - 1) c.places.left c.places.digits _ (omega (arith, c.places-test.true, c.places.invariant.within, c.places.invariant.long))
          (subst (λ (m : ℕ). in_digits c.args.base m c.places.left ++ drop (c.places.place - 1 + 1) c.places.digits ≡ in_digits c.args.base c.args.width c.args.n) more
          (subst (λ (m : ℕ). in_digits c.args.base (c.places.place - (64 - c.args.width)) c.places.left ++ drop m c.places.digits ≡ in_digits c.args.base c.args.width c.args.n) behind c.places.invariant.text));
      within = omega arith;
      from = omega (arith, c.places-test.true);
      long = length-set c.places.digits _ _ ∙ c.places.invariant.long;
    }

pub returns : goal.returns
returns g c =
    let none : c.places.place - (64 - c.args.width) ≡ 0 = omega (arith, c.places-test.false) in
    let here : c.places.place ≡ 64 - c.args.width = omega (arith, c.places-test.false, c.places.invariant.from) in
    let whole : drop (64 - c.args.width) c.places.digits ≡ in_digits c.args.base c.args.width c.args.n =
    all-written c.args.base c.places.left _ _
    (subst (λ (m : ℕ). in_digits c.args.base m c.places.left ++ drop (64 - c.args.width) c.places.digits ≡ in_digits c.args.base c.args.width c.args.n) none
    (subst (λ (m : ℕ). in_digits c.args.base (c.places.place - (64 - c.args.width)) c.places.left ++ drop m c.places.digits ≡ in_digits c.args.base c.args.width c.args.n) here c.places.invariant.text)) in
    on_ok_weaker c.put_text.result (λ put. put ∙ ap (λ (text : List ℕ). c.args.out.now.items ++ text) (to-end c.places.digits 64 (64 - c.args.width) c.places.invariant.long ∙ whole)) c.put_text.ensures
