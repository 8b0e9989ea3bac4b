use Rattle.std.specs.List.{flat_map}
use Rattle.std.proofs.Common.{◌≡◌, ◌++◌, length}
use Rattle.blog_text.specs.code.JsonBytes.{json_byte}
use Rattle.blog_text.proofs.json_text.put_escaped.Given as goal

-- the bytes of the rest are left
abbrev pub invariant-bytes : goal.invariant-bytes
invariant-bytes g l = l.out.items ++ flat_map json_byte l.rest ≡ l.fn.out.items ++ flat_map json_byte l.text

abbrev pub decreases-bytes : goal.decreases-bytes
decreases-bytes g l = length l.rest
