use Rattle.std.specs.List.{flat_map}
use Rattle.std.proofs.Common.{◌≡◌, ◌++◌}
use Rattle.bstr.specs.Utf8.{lossy_chars}
use Rattle.blog_report.specs.Html.{html_char}
use Rattle.blog_report.proofs.html.put_escaped.Given as goal

-- the characters are left
abbrev pub invariant-loop-c : goal.invariant-loop-c
invariant-loop-c g l = l.out.items ++ flat_map html_char l.c-iterator ≡ l.fn.out.items ++ flat_map html_char (lossy_chars l.fn.text)
