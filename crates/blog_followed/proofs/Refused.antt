-- Units that can't be undone by themselves.
use Rattle.std.proofs.Common.{◌≡◌, ◌≢◌, ℕ, Bool, List, [], Err, Result, Some, sym, ap, ◌∙◌, subst}
use Rattle.std.specs.Prelude.{is_none}
use Rattle.blog_event.specs.declared.fault.Fault.{Fault}
use Rattle.blog_event.specs.declared.fault.Fault.TheVariants.{OutOfMemory}
use Rattle.blog_later.specs.Later.{unit_changes}
use Rattle.blog_later.specs.declared.left.LeftRows.{LeftRows}
use Rattle.blog_trans.specs.Acceptance.{IsRefusal, fault}
use Rattle.blog_trans.specs.Changes.{Change}
use Rattle.blog_trans.specs.declared.groups.Index.{Index}
use Rattle.blog_units.specs.Units.{between}
use Rattle.blog_units.specs.code.UnitsView.{AreGroups, IsJudged, facts_told}
use Rattle.blog_units.specs.declared.unit.Unit as given
use Rattle.blog_units.specs.declared.unit_facts.UnitFacts.{UnitFacts}
use Rattle.blog_untouched.proofs.PutRecorded.{unit-refused}
use Rattle.blog_followed.specs.code.FollowedView.{Follows}
use Rattle.blog_followed.specs.declared.followed.Followed.{Followed}
use Rattle.blog_followed.proofs.Remaining.{follows-none}
use mathlib.Core.Logic.{⊎_elim}

refused-changes : {A : Type 0} (bytes : List ℕ) (unit : given.Unit A) (u : UnitFacts) (e : Fault) → IsJudged bytes unit → unit.groups ≡ Err e → unit.facts ≡ u → e ≢ OutOfMemory → unit_changes bytes (facts_told u) ≡ []
refused-changes bytes unit u e judged is facts other =
    let refusal : IsRefusal (fault bytes (between unit.facts.start unit.facts.stop)) e = subst (λ (r : Result (Index _) Fault). AreGroups bytes (between unit.facts.start unit.facts.stop) r) is judged in
    ap (λ (v : UnitFacts). unit_changes bytes (facts_told v)) (sym facts)
    ∙ ⊎_elim (λ (no : e ≡ OutOfMemory). absurd (other no)) (λ (has : fault bytes (between unit.facts.start unit.facts.stop) ≡ Some e). unit-refused bytes (facts_told unit.facts) (ap is_none has)) refusal

pub refused-follows : {A : Type 0} (keeps : Bool) (left : LeftRows A) (bytes : List ℕ) (unit : given.Unit A) (u : UnitFacts) (e : Fault) (now : Followed A) → IsJudged bytes unit → unit.groups ≡ Err e → unit.facts ≡ u
    → e ≢ OutOfMemory → Follows keeps left (unit_changes bytes (facts_told u)) now now
refused-follows keeps left bytes unit u e now judged is facts other =
    subst (λ (cs : List Change). Follows keeps left cs now now) (sym (refused-changes bytes unit u e judged is facts other)) (follows-none keeps left now)
