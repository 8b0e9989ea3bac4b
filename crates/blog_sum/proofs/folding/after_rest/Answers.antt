use Rattle.std.proofs.Common.{◌≡◌, ◌+◌, ◌*◌, ◌≤◌, ◌++◌, length, take, drop, replicate, refl, ap, ◌∙◌, arith}
use Rattle.std.proofs.lemmas.List.{length-append, length-take-le}
use Rattle.std.proofs.lemmas.Slice.{take-put_mid_below, between-put_mid}
use Rattle.blog_sum.specs.Crc.{register_after}
use Rattle.blog_sum.proofs.Folded.{carried-front}
use Rattle.blog_sum.proofs.Rest.{rest_after, rest-more, rest-is}
use borrow.Rule.Slice.PartMut.{put_mid}
use Rattle.blog_sum.proofs.folding.after_rest.Goals as goal

pub parts-init : goal.parts-init
unfolding register_after
parts-init c = refl

pub parts-preserved : goal.parts-preserved
parts-preserved c =
    let old = c.args.scratch.now in
    let zeros = c.copy_from_slice.new.self in
    let behind = drop 304 (drop 304 old) in
    let w = put_mid 304 304 old zeros in
    let more : 16 * (c.parts.block + 1) ≡ 16 * c.parts.block + 16 = omega arith in
    let room : 16 * (c.parts.block + 1) ≤ length c.args.bytes.now = omega arith in
    let reach : 16 * c.parts.block + 304 ≤ length w = omega (arith, length-append (take 304 old) (zeros ++ behind), length-append zeros behind, length-take-le 304 old (omega arith), ap length c.copy_from_slice.ensures.after) in
    c.after_block-register.ensures
    ∙ rest-more (16 * c.parts.block) (16 * (c.parts.block + 1)) c.args.bytes.now w c.folded.result c.parts.register more room reach c.folded.ensures c.parts.invariant

pub returns : goal.returns
returns c register stands =
    let old = c.args.scratch.now in
    let zeros = c.copy_from_slice.new.self in
    let w = put_mid 304 304 old zeros in
    let long : length zeros ≡ 304 = ap length c.copy_from_slice.ensures.after in
    let none : take 304 (drop 304 w) ≡ replicate 304 0 = between-put_mid 304 304 old zeros 608 (omega arith) long ∙ c.copy_from_slice.ensures.after in
    let all : 16 * c.parts.block ≡ 304 = omega arith in
    c.parts.invariant ∙ ap (λ n. rest_after n c.args.bytes.now w) all
    ∙ rest-is c.args.bytes.now w register c.requires.rest none (carried-front w old (take-put_mid_below 304 304 old zeros 304 (omega arith) (omega arith)) ∙ stands)
