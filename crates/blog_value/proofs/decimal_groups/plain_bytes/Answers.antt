use Rattle.std.proofs.Common.{◌≡◌, ◌-◌, ℕ, Bool, if◌then◌else◌, length, take, get_or, refl, subst, ap, ◌∙◌, arith}
use Rattle.std.proofs.Math.ListN.{length-set}
use Rattle.blog_value.specs.Decimals.{plain_bytes}
use Rattle.blog_value.proofs.DecimalBytes.{plain-first, plain-next, whole-plain}
use Rattle.blog_value.proofs.decimal_groups.plain_bytes.Goals as goal

pub others-init : goal.others-init
others-init c =
    record {
      front = plain-first c.args.bytes.now c.first_plain_byte.result (omega (arith, c.requires.some))
          (c.first_plain_byte.ensures ∙ ap (λ (negative : Bool). if negative then 127 - get_or c.args.bytes.now 0 0 else get_or c.args.bytes.now 0 0 - 128) c.is_negative-negative.ensures);
      long = refl;
    }

pub others-preserved : goal.others-preserved
others-preserved c =
    record {
      front = plain-next c.args.bytes.now c.others.plain c.others.i c.plain_byte.result c.others.auto.i c.others-test.true
          (omega (arith, c.others.invariant.long, c.others-test.true, c.requires.few))
          (c.plain_byte.ensures ∙ ap (λ (negative : Bool). if negative then 255 - get_or c.args.bytes.now c.others.i 0 else get_or c.args.bytes.now c.others.i 0) c.is_negative-negative.ensures)
          c.others.invariant.front;
      long = length-set c.others.plain c.others.i c.plain_byte.result ∙ c.others.invariant.long;
    }

pub returns : goal.returns
returns c =
    let last : c.others.i ≡ length c.args.bytes.now = omega (arith, c.others-test.false, c.others.auto.i-end c.requires.some) in
    record {
      plain = whole-plain c.args.bytes.now c.others.plain (subst (λ (i : ℕ). take i c.others.plain ≡ take i (plain_bytes c.args.bytes.now)) last c.others.invariant.front);
      long = c.others.invariant.long;
    }
