use Rattle.std.proofs.Common.{◌≡◌, ◌+◌, ◌*◌, ◌≤◌, ◌++◌, length, take, drop, refl, ap, sym, ◌∙◌, arith}
use Rattle.std.proofs.lemmas.List.{take-append-drop}
use Rattle.std.proofs.lemmas.Simd.{length-put_chunk, length-chunk}
use Rattle.blog_sum.proofs.Chunks.{moved-more, left-more}
use Rattle.blog_sum.proofs.folding.keep_last.Goals as goal

pub parts-preserved : goal.parts-preserved
parts-preserved c =
    let w = c.parts.scratch in
    let old = c.args.scratch.now in
    let new = c.put.new.scratch in
    let n = 16 * c.parts.block in
    let part = take 16 (drop (c.args.folded + n) w) in
    let more : 16 * (c.parts.block + 1) ≡ n + 16 = omega arith in
    let room : 16 * (c.parts.block + 1) ≤ length w = omega arith in
    let long : length part ≡ 16 = length-chunk (c.args.folded + n) 16 w (omega arith) in
    record {
      len = ap length c.put.ensures ∙ length-put_chunk n w part ∙ c.parts.invariant.len;
      moved = moved-more n (16 * (c.parts.block + 1)) c.args.folded w old part new more long room refl c.put.ensures c.parts.invariant.moved c.parts.invariant.left;
      left = left-more n (16 * (c.parts.block + 1)) w old part new more long c.put.ensures c.parts.invariant.left;
    }

pub returns : goal.returns
returns c =
    let old = c.args.scratch.now in
    let now = c.parts.scratch in
    let n = 16 * c.parts.block in
    let all : n ≡ 304 = omega arith in
    sym (take-append-drop n now) ∙ (λ i. c.parts.invariant.moved i ++ c.parts.invariant.left i) ∙ ap (λ n. take n (drop c.args.folded old) ++ drop n old) all
