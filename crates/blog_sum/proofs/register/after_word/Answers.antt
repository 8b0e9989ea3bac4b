use Rattle.std.proofs.Common.{◌+◌, ◌*◌, ◌/◌, ◌^◌, [], get_or, bit_xor, ◌∙◌, arith}
use Rattle.std.proofs.lemmas.Nat.{and_mask}
use Rattle.blog_sum.specs.declared.tables.TheConstants.{TABLES}
use Rattle.blog_sum.proofs.Bytes.{word-left}
use Rattle.blog_sum.proofs.register.after_word.Goals as goal

pub returns : goal.returns
returns c =
    let w = c.args.word in
    let p = c.args.behind in
    (λ i. bit_xor (bit_xor (bit_xor (get_or (get_or TABLES (4 * p + 3) []) (and_mask w 8 i) 0) (get_or (get_or TABLES (4 * p + 2) []) (and_mask (w / 2 ^ 8) 8 i) 0))
    (get_or (get_or TABLES (4 * p + 1) []) (and_mask (w / 2 ^ 16) 8 i) 0)) (get_or (get_or TABLES (4 * p) []) (w / 2 ^ 24) 0))
    ∙ word-left p w c.requires (omega arith)
