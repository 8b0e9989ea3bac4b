use Rattle.std.proofs.Common.{◌≡◌, ◌+◌, ◌*◌, ◌≤◌, length, ap, ◌∙◌, arith}
use Rattle.std.proofs.lemmas.Simd.{length-put_chunk}
use Rattle.blog_sum.proofs.Chunks.{folded-long, fold-more, front-stays, left-more}
use Rattle.blog_sum.proofs.folding.fold.Goals as goal

pub parts-preserved : goal.parts-preserved
parts-preserved c =
    let bytes = c.args.bytes.now in
    let w = c.parts.scratch in
    let part = c.folded.result in
    let new = c.put.new.scratch in
    let n = 16 * c.parts.block in
    let more : 16 * (c.parts.block + 1) ≡ n + 16 = omega arith in
    let room : 16 * (c.parts.block + 1) ≤ length bytes = omega arith in
    let fits : 304 + 16 * (c.parts.block + 1) ≤ length w = omega arith in
    let long : length part ≡ 16 = ap length c.folded.ensures ∙ folded-long n bytes w (omega arith) (omega arith) in
    record {
      len = ap length c.put.ensures ∙ length-put_chunk (304 + n) w part ∙ c.parts.invariant.len;
      before = front-stays n w c.args.scratch.now part new c.put.ensures c.parts.invariant.before;
      folded = fold-more n (16 * (c.parts.block + 1)) bytes w part new more long room fits c.folded.ensures c.put.ensures c.parts.invariant.folded;
      behind = left-more (304 + n) (304 + 16 * (c.parts.block + 1)) w c.args.scratch.now part new (omega arith) long c.put.ensures c.parts.invariant.behind;
      are_bytes = λ k. omega (arith, c.type_inv.scratch k);
    }
