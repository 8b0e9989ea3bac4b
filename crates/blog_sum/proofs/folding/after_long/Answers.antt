use Rattle.std.proofs.Common.{◌≡◌, length, take, drop, refl, ◌∙◌, arith}
use Rattle.blog_sum.specs.Crc.{register_after}
use Rattle.blog_sum.specs.code.Folding.{StandsFor}
use Rattle.blog_sum.proofs.Bytes.{in-two, to-the-end}
use Rattle.blog_sum.proofs.Chunks.{kept-front}
use Rattle.blog_sum.proofs.Folded.{chunk-on, carried-front}
use Rattle.blog_sum.proofs.Begin.{begins}
use Rattle.blog_sum.proofs.folding.after_long.Goals as goal

pub chunks-init : goal.chunks-init
chunks-init c = record {
  register = c.args.register;
  stands = begins 1320 c.args.register c.write_u32.new.buf (omega arith) (omega arith) c.write_u32.ensures;
  same = refl;
  rest = omega arith;
}

pub chunks-preserved : goal.chunks-preserved
chunks-preserved c =
    let bytes = c.chunks.bytes.now in
    let chunk = c.split_at.result.0.now in
    let folded = c.fold.new.scratch in
    let kept = c.keep_last.new.scratch in
    let register = c.chunks.invariant.register in
    let before : StandsFor folded register = carried-front folded c.chunks.scratch c.fold.ensures.before ∙ c.chunks.invariant.stands in
    let last : take 304 kept ≡ take 304 (drop (length chunk) folded) = kept-front (length chunk) folded kept (omega arith) c.keep_last.ensures in
    record {
      register = register_after register chunk;
      stands = carried-front kept (drop (length chunk) folded) last ∙ chunk-on chunk folded register (omega arith) c.fold.ensures.are_bytes c.fold.ensures.folded before;
      same = (λ i. register_after (register_after register (c.split_at.ensures.front i)) (c.split_at.ensures.back i)) ∙ in-two _ register bytes ∙ c.chunks.invariant.same;
      rest = omega arith;
    }

pub returns-clause-same : goal.returns-clause-same
returns-clause-same c =
    let bytes = c.chunks.bytes.now in
    let register = c.chunks.invariant.register in
    (λ i. register_after (c.after_rest.ensures register c.chunks.invariant.stands i) (to-the-end 304 bytes i))
    ∙ in-two 304 register bytes ∙ c.chunks.invariant.same
