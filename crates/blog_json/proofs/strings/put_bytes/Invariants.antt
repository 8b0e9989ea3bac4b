use Rattle.std.proofs.Common.{◌≡◌, ◌++◌, take}
use Rattle.std.specs.List.{flat_map}
use Rattle.blog_json.specs.Strings.{string_byte}
use Rattle.blog_json.proofs.strings.put_bytes.Given as goal

-- the bytes so far stand behind what was there
abbrev pub invariant-bytes : goal.invariant-bytes
invariant-bytes g l = l.out.items ≡ l.fn.out.items ++ flat_map string_byte (take l.byte-index l.bytes)
