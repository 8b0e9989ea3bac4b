-- The words are taken apart from the register, each with the words behind it.
use Rattle.std.proofs.Common.{◌≡◌, drop, bit_xor, sym, ap, ◌∙◌, arith}
use Rattle.byteorder.specs.Endian.{little_number}
use Rattle.blog_sum.specs.Crc.{step_bits}
use Rattle.blog_sum.proofs.Bytes.{sixteen-bytes, to-the-end}
use Rattle.blog_sum.proofs.register.after_block.Goals as goal

pub returns : goal.returns
returns c =
    let fourth : c.after_word-fourth.result ≡ step_bits 32 (little_number 4 (drop 12 c.args.block.now)) =
    c.after_word-fourth.ensures ∙ ap (step_bits 32) (c.read_u32.ensures ∙ ap (little_number 4) (to-the-end 12 c.args.block.now)) in
    let third : c.after_word-third.result ≡ step_bits 64 (little_number 4 (drop 8 c.args.block.now)) =
    c.after_word-third.ensures ∙ ap (step_bits 64) (c.read_u32-2.ensures ∙ ap (little_number 4) (to-the-end 8 c.args.block.now)) in
    let second : c.after_word-second.result ≡ step_bits 96 (little_number 4 (drop 4 c.args.block.now)) =
    c.after_word-second.ensures ∙ ap (step_bits 96) (c.read_u32-3.ensures ∙ ap (little_number 4) (to-the-end 4 c.args.block.now)) in
    let first : c.after_word-first.result ≡ step_bits 128 (bit_xor c.args.register (little_number 4 c.args.block.now)) =
    c.after_word-first.ensures ∙ ap (λ w. step_bits 128 (bit_xor c.args.register w)) c.read_u32-4.ensures in
    (λ i. bit_xor (bit_xor (bit_xor (fourth i) (third i)) (second i)) (first i))
    ∙ sym (sixteen-bytes c.args.register c.args.block.now (λ k. omega (arith, c.type_inv.block k)) c.requires)
