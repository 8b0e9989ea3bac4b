use Rattle.std.proofs.Common.{◌≡◌, ap, sym, ◌∙◌}
use Rattle.blog_event.specs.code.LogView.{log_bytes}
use Rattle.blog_later.proofs.Seen.{judged-ok}
use Rattle.blog_later.specs.Later.{unit_changes}
use Rattle.blog_trans.specs.Changes.{changes}
use Rattle.blog_units.specs.Units.{between}
use Rattle.blog_units.specs.code.UnitsView.{facts_told}
use Rattle.blog_units.specs.declared.unit_facts.UnitFacts.{UnitFacts}
use Rattle.blog_untouched.proofs.PutRecorded.{unit-accepted}
use Rattle.blog_followed.proofs.OneRow.{on-ok}
use Rattle.blog_followed.proofs.Refused.{refused-follows}
use Rattle.blog_followed.proofs.units.follow_unit.Goals as goal

pub returns-in-Ok : goal.returns-in-Ok
returns-in-Ok g c =
    let bytes = log_bytes c.args.unit.log in
    let judged = c.with_groups-judged.result in
    let (accepted, same, sel) = judged-ok bytes judged c.in-Ok.index c.with_groups-judged.ensures.judged c.in-Ok.is in
    let of : UnitFacts → _ = λ u. unit_changes bytes (facts_told u) in
    let own : changes bytes (between judged.facts.start judged.facts.stop) ≡ unit_changes bytes (facts_told c.args.unit) =
    sym (unit-accepted bytes (facts_told judged.facts) accepted) ∙ ap of c.with_groups-judged.ensures.facts in
    rw (own) at (rw (same, sel) at c.follow_index.ensures)

pub returns : goal.returns
returns g c =
    on-ok c.passed_over.result _ _ (λ other. refused-follows c.args.keeps c.args.left.now (log_bytes c.args.unit.log) c.with_groups-judged.result c.args.unit _ c.args.followed.now
    c.with_groups-judged.ensures.judged c.in-Err.is c.with_groups-judged.ensures.facts other) c.passed_over.ensures
