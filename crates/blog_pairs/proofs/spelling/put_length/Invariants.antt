use Rattle.std.proofs.Common.{◌≡◌, ◌++◌, ◌/◌, ◌^◌}
use Rattle.byteorder.specs.Endian.{little_bytes}
use Rattle.blog_pairs.proofs.spelling.put_length.Given as goal

-- so many bytes are written
abbrev pub invariant-bytes : goal.invariant-bytes
invariant-bytes g l = record {
  text : l.image.items ≡ l.fn.image.items ++ little_bytes l.counter l.len;
  rest : l.left ≡ l.len / 256 ^ l.counter;
}
