-- The progress over the range of an accepted log has the log's groups.
use Rattle.std.proofs.Common.{rules, ◌≡◌, ℕ, Bool, true, false, if◌then◌else◌, List, [], ◌∷◌, reverse, Option, None, arith}
use Rattle.std.specs.List.{AllByRecursion}
use Rattle.blog_event.specs.declared.fault.Fault.{Fault}
use Rattle.blog_event.specs.Fault.{Cause, needs, first_failing, fault_at}
use Rattle.blog_event.specs.File.{Placed, placed_from, read}
use Rattle.blog_trans.specs.Selection.{Selection}
use Rattle.blog_trans.specs.Places.{place, is_inside}
use Rattle.blog_trans.specs.Acceptance.{event_fault, range, is_in_range, first_read_fault, lines, fault, IsAccepted, Passes}
use Rattle.blog_trans.specs.Groups.{placed_groups}
use Rattle.blog_trans.specs.code.Progress.{progress}
use Rattle.blog_trans.proofs.ProgressGroups.{progress-is-groups}

-- where no check fails, each passes
pub none-failing : {A : Type 0} (checks : List (Option A)) → first_failing checks ≡ None → AllByRecursion (λ c. c ≡ None) checks
none-failing [] e = tt
none-failing (check ∷ checks) e = let others = none-failing checks in grind arith

-- a check with no fault at a position has none
pub no-fault-at : (pos : ℕ) (check : Option Cause) → fault_at pos check ≡ None → check ≡ None
no-fault-at pos check e = grind arith

-- a check that passes has its test
pub needed : (b : Bool) (cause : Cause) → needs b cause ≡ None → b ≡ true
needed b cause e = grind arith

-- what is read has no fault: the event, if it is in the range, and the others
read-step : (a : Option Fault) (b : Bool) (at : ℕ) (o : Option Cause) (rest : Option Fault)
    → first_failing (first_failing (a ∷ (if b then fault_at at o else None) ∷ []) ∷ rest ∷ []) ≡ None
    → (rest ≡ None) × (b ≡ true → o ≡ None)
read-step a b at o rest e = grind arith

-- the events of the range pass, where no event that is read has a fault
pub read-passes : (sel : Selection) (earlier ps : List Placed) → first_read_fault sel earlier ps ≡ None → Passes sel (range sel earlier) (range sel ps)
read-passes sel earlier [] e = tt
read-passes sel earlier (p ∷ ps) e =
    let parts = read-step _ (is_in_range sel p) p.pos (event_fault sel (range sel earlier) p) _ e in
    grind (arith, read-passes sel (p ∷ earlier) ps parts.0)

-- of an accepted log no line has a fault
pub accepted-lines : (bytes : List ℕ) (sel : Selection) → IsAccepted bytes sel → AllByRecursion (λ c. c ≡ None) (lines bytes sel (read bytes sel.stop))
unfolding fault
accepted-lines bytes sel accepted = none-failing (lines bytes sel (read bytes sel.stop)) accepted

-- the events of the range of an accepted log pass
pub accepted-passes : (bytes : List ℕ) (sel : Selection) → IsAccepted bytes sel → Passes sel [] (range sel (placed_from 4 (read bytes sel.stop)))
accepted-passes bytes sel accepted = read-passes sel [] (placed_from 4 (read bytes sel.stop)) (accepted-lines bytes sel accepted).1.1.1.1.0

-- they end outside of a transaction
pub accepted-outside : (bytes : List ℕ) (sel : Selection) → IsAccepted bytes sel → is_inside (place (reverse (range sel (placed_from 4 (read bytes sel.stop))))) ≡ false
unfolding fault
accepted-outside bytes sel accepted = grind arith

-- the groups of an accepted log are what the progress has kept at its end
pub accepted-groups : (bytes : List ℕ) (sel : Selection) → IsAccepted bytes sel
    → placed_groups bytes sel ≡ (progress sel (reverse (range sel (placed_from 4 (read bytes sel.stop))))).done
unfolding placed_groups
accepted-groups bytes sel accepted = search (rules, progress-is-groups, accepted-passes, accepted-outside)
