use Rattle.std.proofs.Common.{◌≡◌, ◌≤◌, ◌%◌, ◌/◌, Bool, true, false, get_or, sym, ◌∙◌, arith}
use Rattle.std.proofs.lemmas.Bool.{eqb-true}
use Rattle.blog_row.specs.Image.{is_marked}
use Rattle.blog_row.proofs.Walking.{eight_null, one_null}
use Rattle.blog_row.proofs.image.next_value.Goals as goal
use Rattle.blog_row.proofs.image.next_value.Goals.{then-i-eq0, else-i-eq0, then-columns-i-ge8, else-columns-i-ge8, then-eight, else-eight}

-- a test has one answer
not_both : {P : Type 0} (b : Bool) → b ≡ false → b ≡ true → P
not_both b fails holds = absurd (let same = sym fails ∙ holds in cc)

pub loop-i-preserved : goal.loop-i-preserved
loop-i-preserved c =
    let low : c.args.from ≤ c.loop-i.i = c.loop-i.invariant.0 in
    elim c.if-eight.branch [
      | then-eight w ↦ elim c.if-columns-i-ge8.branch [
        | then-columns-i-ge8 v ↦
            let whole : c.loop-i.i % 8 ≡ 0 = elim c.if-i-eq0.branch [ then-i-eq0 u ↦ u.if-i-eq0.true | else-i-eq0 u ↦ eqb-true _ 0 (sym u.value-is ∙ v.if-columns-i-ge8.true) ] in
            let full : get_or c.args.nulls.now (c.loop-i.i / 8) 0 ≡ 255 = eqb-true _ 255 (sym v.eight-is ∙ w.if-eight.true) in
            rw w.i-is (omega (arith, low), eight_null _ _ _ c.loop-i.invariant.1 whole full)
        | else-columns-i-ge8 v ↦ not_both c.if-i-eq0.value v.if-columns-i-ge8.false (sym v.eight-is ∙ w.if-eight.true)
      ]
      | else-eight w ↦
          let marked : is_marked c.args.nulls.now c.loop-i.i ≡ true = sym c.is_set.ensures ∙ c.if-not-is_set.false in
          rw w.i-is (omega (arith, low), one_null _ _ _ c.loop-i.invariant.1 marked)
    ]
