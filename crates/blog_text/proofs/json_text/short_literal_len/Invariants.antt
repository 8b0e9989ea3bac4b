use Rattle.std.specs.List.{prefix_len}
use Rattle.std.proofs.Common.{◌≡◌, ◌+◌, drop}
use Rattle.blog_text.specs.code.JsonBytes.{is_literal}
use Rattle.blog_text.proofs.json_text.short_literal_len.Given as goal

-- the bytes so far need no escape
abbrev pub invariant-bytes : goal.invariant-bytes
invariant-bytes l = l.i + prefix_len is_literal (drop l.i l.text) ≡ prefix_len is_literal l.text
