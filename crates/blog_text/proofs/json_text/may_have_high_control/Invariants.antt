use Rattle.std.proofs.Common.{◌≡◌, take}
use Rattle.std.specs.List.{list_any}
use Rattle.blog_text.specs.code.JsonBytes.{may_begin}
use Rattle.blog_text.proofs.json_text.may_have_high_control.Given as goal

-- whether a byte so far is one
abbrev pub invariant-bytes : goal.invariant-bytes
invariant-bytes l = l.is_there ≡ list_any may_begin (take l.byte-index l.text)
