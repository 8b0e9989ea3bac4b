use Rattle.std.specs.List.{flat_map}
use Rattle.std.proofs.Common.{◌≡◌, ◌++◌, ◌∷◌, drop}
use Rattle.blog_report.specs.Shell.{quoted_byte}
use Rattle.blog_report.proofs.shell.put_word.Given as goal

-- the bytes are left from this one on
abbrev pub invariant-loop-byte : goal.invariant-loop-byte
invariant-loop-byte g l = l.out.items ++ flat_map quoted_byte (drop l.byte-index l.text) ≡ l.fn.out.items ++ (39 ∷ flat_map quoted_byte l.text)
