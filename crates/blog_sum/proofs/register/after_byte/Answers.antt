use Rattle.std.proofs.Common.{◌/◌, [], lit<, bit_xor, get_or, ap, ◌∙◌, arith}
use Rattle.std.proofs.lemmas.Nat.{and_mask}
use Rattle.blog_sum.specs.declared.tables.TheConstants.{TABLES}
use Rattle.blog_sum.proofs.Entries.{table-at}
use Rattle.blog_sum.proofs.Bytes.{byte-step}
use Rattle.blog_sum.proofs.register.after_byte.Goals as goal

pub returns : goal.returns
returns c =
    ap (λ k. bit_xor (get_or (get_or TABLES 0 []) k 0) (c.args.register / 256)) (and_mask (bit_xor c.args.register c.args.byte) 8)
    ∙ byte-step (get_or TABLES 0 []) (table-at 0 (lit< tt)) c.args.register c.args.byte (omega arith)
