use Rattle.std.proofs.Common.{◌≡◌, ◌≤◌, ◌-◌, ◌%◌, length, take, vec_capacity}
use Rattle.blog_device.specs.Watched.{device_of, has_failed}
use Rattle.blog_sql.specs.Sql.{base64_lines}
use Rattle.blog_sql.specs.code.Adding.{Adds}
use Rattle.blog_sql.proofs.base64_lines.put_full_lines.Given as goal

-- the lines so far
abbrev pub invariant-lines : goal.invariant-lines
invariant-lines g l = record {
  adds : Adds (g.W.Write.contents (device_of l.fn.writer)) (g.W.Write.contents (device_of l.writer)) l.fn.chunk.items l.chunk.items (base64_lines (take l.done l.bytes));
  within : l.done ≤ length l.bytes;
  full : l.done % 57 ≡ 0;
  capacity : vec_capacity l.fn.chunk ≤ vec_capacity l.chunk;
  mark : has_failed l.writer ≡ has_failed l.fn.writer;
}

abbrev pub decreases-lines : goal.decreases-lines
decreases-lines g l = length l.bytes - l.done
