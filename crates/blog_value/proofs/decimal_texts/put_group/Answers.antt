use Rattle.std.proofs.Common.{◌≡◌, ◌++◌, ℕ, ap, ◌∙◌, arith}
use Rattle.std.proofs.lemmas.Result.{on_ok_weaker}
use Rattle.blog_value.specs.Digits.{padded}
use Rattle.blog_value.specs.Decimals.{without_zeros}
use Rattle.blog_value.proofs.DecimalDigits.{group-behind, group-in-front, group-of-zeros, without-zeros-in-front, zeros-alone}
use Rattle.blog_value.proofs.decimal_texts.put_group.Goals as goal

pub returns-then-len-start : goal.returns-then-len-start
returns-then-len-start g c =
    on_ok_weaker c.put_padded.result
    (λ put front digits long old. group-behind front digits _ c.args.out.now.items c.put_padded.new.out.items old (omega (arith, long, c.if-len-start.true, c.len.ensures))
    (put ∙ ap (λ (width : ℕ). c.args.out.now.items ++ padded width c.args.group) (c.from.ensures)))
    c.put_padded.ensures

pub returns-then-group-gt0 : goal.returns-then-group-gt0
returns-then-group-gt0 g c =
    on_ok_weaker c.put_unsigned.result
    (λ put front digits long old. group-in-front front digits _ _ c.args.out.now.items c.put_unsigned.new.out.items old (omega (arith, long, c.if-len-start.false, c.len.ensures))
    (without-zeros-in-front c.args.width c.args.group c.if-group-gt0.true c.requires.fits (omega (arith, c.ranges.group.fits))) put)
    c.put_unsigned.ensures

pub returns-else-group-gt0 : goal.returns-else-group-gt0
returns-else-group-gt0 g c front digits long old =
    let none : c.args.group ≡ 0 = omega (arith, c.if-group-gt0.false) in
    group-of-zeros front digits _ c.args.out.now.items old (omega (arith, long, c.if-len-start.false, c.len.ensures))
    (ap (λ (n : ℕ). without_zeros (padded c.args.width n)) none ∙ zeros-alone c.args.width)
