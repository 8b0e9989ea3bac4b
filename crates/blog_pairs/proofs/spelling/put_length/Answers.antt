use Rattle.std.proofs.Common.{refl}
use Rattle.blog_pairs.proofs.Lengths.{left_more, length_more}
use Rattle.blog_pairs.proofs.spelling.put_length.Goals as goal

pub bytes-preserved : goal.bytes-preserved
bytes-preserved g c = record {
  text = length_more c.args.image.now.items c.bytes.image.items c.push.new.self.items c.bytes.counter c.args.len c.bytes.left _ c.bytes.invariant.rest refl c.bytes.invariant.text c.in_ok-push.ensures.items;
  rest = left_more c.bytes.counter c.args.len c.bytes.left c.bytes.invariant.rest;
}
