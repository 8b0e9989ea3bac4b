use Rattle.std.proofs.Common.{Bool, ◌||◌, sym, ap, ap₂, ◌∙◌}
use Rattle.std.specs.List.{list_any}
use Rattle.std.proofs.lemmas.List.{take_all}
use Rattle.std.proofs.lemmas.List.Folds.{list_any_more}
use Rattle.blog_text.specs.code.JsonBytes.{may_begin}
use Rattle.blog_text.proofs.json_text.may_have_high_control.Goals as goal

pub bytes-preserved : goal.bytes-preserved
bytes-preserved c =
    ap₂ (λ (so_far this : Bool). so_far || this) c.bytes.invariant c.may_begin-is_there.ensures
    ∙ sym (list_any_more may_begin c.args.text.now c.bytes.byte-index 0 c.bytes-test.true)

pub returns : goal.returns
returns c = c.bytes.invariant ∙ ap (list_any may_begin) (take_all c.bytes.byte-index c.args.text.now c.bytes-test.false)
