use Rattle.std.proofs.Common.{◌≡◌, ◌+◌, drop}
use Rattle.blog_text.specs.code.Plain.{plain_len}
use Rattle.blog_text.proofs.escapes.plain_len.Given as goal

-- the bytes so far are plain
abbrev pub invariant-plain : goal.invariant-plain
invariant-plain l = l.i + plain_len (drop l.i l.text) ≡ plain_len l.text
