use Rattle.std.proofs.Common.{◌≡◌, drop}
use Rattle.blog_report.specs.Shell.{all_plain}
use Rattle.blog_report.proofs.shell.is_word.Given as goal

-- the bytes so far are plain
abbrev pub invariant-bytes : goal.invariant-bytes
invariant-bytes l = all_plain (drop l.i l.text) ≡ all_plain l.text
