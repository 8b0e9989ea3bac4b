use Rattle.std.proofs.Common.{bit_xor, ap, ◌∙◌}
use Rattle.blog_sum.proofs.Bytes.{crc32-more}
use Rattle.blog_sum.proofs.crc.Crc.update.Goals as goal

pub returns : goal.returns
returns c = record {
  more = λ before same.
      ap (λ r. bit_xor r 0xFFFFFFFF) c.after_bytes-self-inside.ensures ∙ crc32-more c.self.inside.register before c.args.bytes.now (c.self.view_is ∙ same);
}
