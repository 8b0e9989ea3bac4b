use Rattle.std.proofs.Common.{◌≡◌, ◌++◌}
use Rattle.bstr.specs.Utf8.{lossy_chars}
use Rattle.blog_list.specs.Json.{json_beginning}
use Rattle.blog_list.proofs.beginning.put_beginning.Given as goal

-- the beginning of the characters that are left, in the columns and characters that are left
abbrev pub invariant-loop-c : goal.invariant-loop-c
invariant-loop-c g l =
    l.out.items ++ json_beginning l.left l.more l.c-iterator ≡ l.fn.out.items ++ json_beginning l.fn.columns l.fn.characters (lossy_chars l.fn.text)
