use Rattle.std.proofs.Common.{◌≡◌, ◌+◌, ◌≤◌, ◌++◌, length, drop, vec_len}
use Rattle.std.specs.Prelude.{vec_capacity}
use Rattle.blog_event.specs.Writing.{joined}
use Rattle.blog_event.proofs.writing.put_parts.Given as goal

-- what is still to be appended, and that there is room for it
abbrev pub invariant-loop-part : goal.invariant-loop-part
invariant-loop-part g l = record {
  items : l.out.items ++ joined (drop l.part-index l.parts) ≡ l.fn.out.items ++ joined l.parts;
  len : vec_len l.out + length (joined (drop l.part-index l.parts)) ≡ vec_len l.fn.out + length (joined l.parts);
  room : vec_len l.out + length (joined (drop l.part-index l.parts)) ≤ vec_capacity l.out;
  capacity : vec_capacity l.fn.out ≤ vec_capacity l.out;
}
