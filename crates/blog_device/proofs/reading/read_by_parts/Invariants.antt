-- What stands there was read, at most one byte more than the limit, and no read failed.
use Rattle.std.proofs.Common.{◌≡◌, ◌+◌, ◌-◌, ◌≤◌, vec_len}
use Rattle.std.specs.Io.KnownBytes.{Consumes}
use Rattle.blog_device.specs.Watched.{device_of, has_failed}
use Rattle.blog_device.proofs.reading.read_by_parts.Given as goal

abbrev pub invariant-loop-bytes : goal.invariant-loop-bytes
invariant-loop-bytes g l = record {
  mark : has_failed l.reader ≡ has_failed l.initial.reader;
  bound : vec_len l.bytes ≤ l.limit + 1;
  bytes : Consumes (g.R.Read.remaining (device_of l.initial.reader)) (g.R.Read.remaining (device_of l.reader)) l.bytes.items;
}

abbrev pub decreases-loop-bytes : goal.decreases-loop-bytes
decreases-loop-bytes g l = (l.limit + 1) - vec_len l.bytes
