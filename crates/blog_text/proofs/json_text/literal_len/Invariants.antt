use Rattle.std.specs.List.{prefix_len}
use Rattle.std.proofs.Common.{◌≡◌, ◌+◌, ◌-◌, ◌≤◌, drop, length}
use Rattle.blog_text.specs.code.JsonBytes.{is_literal}
use Rattle.blog_text.proofs.json_text.literal_len.Given as goal

-- the bytes so far need no escape
abbrev pub invariant-blocks-2 : goal.invariant-blocks-2
invariant-blocks-2 l = (l.len + prefix_len is_literal (drop l.len l.text) ≡ prefix_len is_literal l.text) × (l.len ≤ length l.text)

abbrev pub decreases-blocks-2 : goal.decreases-blocks-2
decreases-blocks-2 l = length l.text - l.len
