use Rattle.std.specs.List.{flat_map}
use Rattle.std.proofs.Common.{◌≡◌, ◌++◌, ◌∷◌}
use Rattle.bstr.specs.Utf8.{lossy_chars}
use Rattle.blog_text.specs.JsonStrings.{json_char}
use Rattle.blog_text.proofs.json_text.put_lossy.Given as goal

-- the characters are left
abbrev pub invariant-loop-c : goal.invariant-loop-c
invariant-loop-c g l = l.out.items ++ flat_map json_char l.c-iterator ≡ l.fn.out.items ++ (34 ∷ flat_map json_char (lossy_chars l.fn.text))
