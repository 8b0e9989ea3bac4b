use Rattle.std.proofs.Common.{refl}
use Rattle.blog_choice.specs.code.ChosenView.{names_choice}
use Rattle.blog_event.specs.code.LogView.{log_bytes}
use Rattle.blog_units.specs.code.UnitsView.{facts_told}
use Rattle.blog_later.specs.code.LookedView.{left_before}
use Rattle.blog_later.proofs.Seen.{judged-ok, seen-accepted}
use Rattle.blog_later.proofs.looked.Looked.look.Goals as goal

pub returns-in_ok-touched-in-Ok : goal.returns-in_ok-touched-in-Ok
returns-in_ok-touched-in-Ok g c = λ us n are.
    let (accepted, same, sel) = judged-ok (log_bytes c.args.log.now) c.args.unit.now c.in-Ok.index c.requires c.in-Ok.is in
    seen-accepted (left_before c.args.left.now c.args.lists) (names_choice c.args.names.now) (log_bytes c.args.log.now) us (facts_told c.args.unit.now.facts) n c.in_ok-touched-in-Ok.touched c.args.self.now _
    accepted are (rw (same, sel) at c.in_ok-touched-in-Ok.ensures) c.saturating_add-self.ensures c.saturating_add-self-in-Ok.ensures refl refl
