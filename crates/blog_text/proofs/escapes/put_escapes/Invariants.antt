use Rattle.std.proofs.Common.{◌≡◌, ◌++◌, drop}
use Rattle.std.specs.List.{flat_map}
use Rattle.blog_text.specs.Escapes.{byte_escape}
use Rattle.blog_text.proofs.escapes.put_escapes.Given as goal

-- the bytes are left from this one on
abbrev pub invariant-loop-byte : goal.invariant-loop-byte
invariant-loop-byte g l = l.out.items ++ flat_map byte_escape (drop l.byte-index l.bytes) ≡ l.fn.out.items ++ flat_map byte_escape l.bytes
