use Rattle.std.proofs.Common.{drop, ap, ◌∙◌}
use Rattle.blog_sum.specs.Crc.{register_after}
use Rattle.blog_sum.proofs.Bytes.{in-two}
use Rattle.blog_sum.proofs.register.after_bytes.Goals as goal

pub blocks-2-preserved : goal.blocks-2-preserved
blocks-2-preserved c =
    let parts = c.in-Some.ensures.cases in
    (λ i. register_after (c.after_block-register.ensures i) (parts.1 i))
    ∙ ap (λ block. register_after (register_after c.blocks-2.register block) (drop 16 c.blocks-2.bytes.now)) parts.0
    ∙ in-two 16 c.blocks-2.register c.blocks-2.bytes.now ∙ c.blocks-2.invariant
