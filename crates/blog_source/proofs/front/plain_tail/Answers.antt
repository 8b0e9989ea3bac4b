-- The sum is taken of the bytes so far.
use Rattle.std.proofs.Common.{◌∙◌, ◌∷◌, ◌++◌, [], List, ℕ, ap, arith}
use Rattle.blog_source.proofs.Tails.{tail-text}
use Rattle.blog_source.proofs.front.plain_tail.Goals as goal

pub returns : goal.returns
returns c = record {
  text = λ e found is. tail-text c.args.bytes.now _ e c.args.size _ c.value.result (λ i. omega (arith, c.type_inv.bytes i)) c.requires.mark found is c.requires.long (omega arith) (ap (λ (sum : List ℕ). 0 ∷ (sum ++ [])) c.write_u32.ensures)
      (c.value.ensures.value ∙ c.update.ensures.more _ c.crc_not_in_use-crc.ensures);
}
