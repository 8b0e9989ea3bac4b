use Rattle.std.proofs.Common.{◌≡◌, ◌++◌, length}
use Rattle.blog_json.specs.Opaques.{lines_of}
use Rattle.blog_json.specs.Texts.{Keeps}
use Rattle.blog_json.proofs.opaques.put_lines.Given as goal

-- the lines of the bytes that are left are to follow
abbrev pub invariant-lines : goal.invariant-lines
invariant-lines g l = record {
  appended : l.out.items ++ lines_of l.rest ≡ l.fn.out.items ++ lines_of l.bytes;
  kept : Keeps l.fn.out.items l.out.items;
}

abbrev pub decreases-lines : goal.decreases-lines
decreases-lines g l = length l.rest
