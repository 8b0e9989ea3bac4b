use Rattle.std.proofs.Common.{◌≡◌, ◌-◌, length, take}
use Rattle.blog_gtid.specs.Integers.{bytes_front}
use Rattle.blog_gtid.proofs.Fronts.{after}
use Rattle.blog_gtid.proofs.integers.server_front.Given as goal

abbrev pub invariant-loop-byte : goal.invariant-loop-byte
invariant-loop-byte l = record {
  sixteen : length l.byte-items ≡ 16;
  read : bytes_front 16 l.bytes ≡ after (take l.byte-index l.byte-items) (bytes_front (16 - l.byte-index) l.rest);
}
