use Rattle.std.proofs.Common.{◌≡◌, ℕ, suc, ◌+◌, ◌*◌, ◌/◌, List, length, take, drop, refl, ap, ap₂, ◌∙◌, arith}
use Rattle.blog_trans.specs.code.SeededHash.{after_blocks, folded, mixed}
use Rattle.blog_trans.proofs.seeded.folded.Goals as goal

pub loop-at-init : goal.loop-at-init
unfolding after_blocks
loop-at-init c = (refl, omega arith, refl)

pub loop-at-preserved : goal.loop-at-preserved
unfolding after_blocks
loop-at-preserved c =
    let at : ℕ = c.loop-at.at in
    let bytes : List ℕ = c.args.bytes.now in
    let whole : at ≡ 16 * (at / 16) = omega (arith, c.loop-at.invariant.0) in
    let more : suc (at / 16) ≡ (at + 16) / 16 = omega arith in (
      omega (arith, c.loop-at.invariant.0),
      omega (arith, c.loop-at-test.true),
      c.mixed-state.ensures ∙ ap₂ (mixed c.args.factor) c.loop-at.invariant.2 (c.block_at.ensures ∙ ap (λ n. take 16 (drop n bytes)) whole)
          ∙ ap (after_blocks c.args.factor c.args.start bytes) more,
    )

pub returns : goal.returns
unfolding folded
returns c =
    let blocks : c.loop-at.at / 16 ≡ (length c.args.bytes.now + 15) / 16 = omega (arith, c.loop-at.invariant.0, c.loop-at.invariant.1, c.loop-at-test.false) in
    c.loop-at.invariant.2 ∙ ap (after_blocks c.args.factor c.args.start c.args.bytes.now) blocks
