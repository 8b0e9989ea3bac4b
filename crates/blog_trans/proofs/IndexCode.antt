-- A log that was walked through: its fault, and what the builder kept of it.
use Rattle.std.proofs.Common.{◌≡◌, ℕ, zero, suc, not, ◌&&◌, nat_lt, List, [], ◌∷◌, length, reverse, take, drop, Option, None, refl, sym, ap, ◌∙◌, inl, inr, rules, arith}
use Rattle.blog_event.specs.declared.fault.Fault.{Fault}
use Rattle.blog_event.specs.declared.fault.Fault.TheVariants.{CutEvent, NoEventAt, Unended}
use Rattle.blog_event.specs.Fault.{needs, first_failing, fault_at}
use Rattle.blog_event.specs.File.{placed_from, end_of, is_below, read}
use Rattle.blog_event.specs.Opening.{opening_fault}
use Rattle.blog_trans.specs.Selection.{Selection}
use Rattle.blog_trans.specs.Places.{place, is_outside}
use Rattle.blog_trans.specs.Acceptance.{range, first_read_fault, is_cut, lines, fault, IsAccepted, HavePassed, IsRefusal}
use Rattle.blog_trans.specs.declared.place.Place.{Place}
use Rattle.blog_trans.specs.Groups.{placed_groups}
use Rattle.blog_trans.specs.code.Progress.{progress}
use Rattle.blog_trans.proofs.ProgressGroups.{none-open}
use Rattle.blog_trans.proofs.Opening.{opening-lines}
use Rattle.blog_trans.proofs.CheckingRows.{alone}
use Rattle.blog_trans.proofs.ProgressAccepted.{accepted-groups, accepted-outside}
use Rattle.blog_trans.specs.code.WalkView.{walk_fault, end_fault}

-- checks that pass in front of others change nothing
front-passes : (n : ℕ) (checks : List (Option Fault)) → first_failing (take n checks) ≡ None → first_failing checks ≡ first_failing (drop n checks)
front-passes zero checks none = refl
front-passes (suc n) [] none = refl
front-passes (suc n) (check ∷ checks) none = let later = front-passes n checks in grind arith

-- four checks, two by two
in-twos : (a b c d : Option Fault) → first_failing (a ∷ b ∷ c ∷ d ∷ []) ≡ first_failing (first_failing (a ∷ b ∷ []) ∷ first_failing (c ∷ d ∷ []) ∷ [])
in-twos a b c d = search rules

-- the fault at the end of what is read
abbrev pub last_fault : List ℕ → Selection → Option Fault
last_fault bytes sel =
    let events = read bytes sel.stop in
    end_fault (length bytes) sel (place (reverse (range sel (placed_from 4 events)))) (end_of 4 events)

-- the fault of an opened log
pub opened-fault : (bytes : List ℕ) (sel : Selection) → opening_fault bytes ≡ None → fault bytes sel ≡ first_failing (walk_fault bytes sel ∷ last_fault bytes sel ∷ [])
unfolding fault
opened-fault bytes sel opened =
    let es = read bytes sel.stop in
    let walked = first_read_fault sel [] (placed_from 4 es) in
    let cut = fault_at (end_of 4 es) (needs (not (is_cut bytes sel es)) CutEvent) in
    let start = fault_at sel.start (needs (not (is_below sel.start sel.stop && nat_lt (length bytes) sel.start)) NoEventAt) in
    let ended = fault_at (end_of 4 es) (needs (is_outside (place (reverse (range sel (placed_from 4 es))))) Unended) in
    front-passes 4 (lines bytes sel es) (sym (opening-lines bytes sel) ∙ opened) ∙ in-twos walked cut start ended

pub walk-refused : (bytes : List ℕ) (sel : Selection) (f : Fault) → opening_fault bytes ≡ None → IsRefusal (walk_fault bytes sel) f → IsRefusal (fault bytes sel) f
walk-refused bytes sel f opened (inl memory) = inl memory
walk-refused bytes sel f opened (inr is) = inr (opened-fault bytes sel opened ∙ ap (λ c. first_failing (c ∷ last_fault bytes sel ∷ [])) is)

pub end-refused : (bytes : List ℕ) (sel : Selection) → opening_fault bytes ≡ None → walk_fault bytes sel ≡ None → fault bytes sel ≡ last_fault bytes sel
end-refused bytes sel opened walked = opened-fault bytes sel opened ∙ ap (λ c. first_failing (c ∷ last_fault bytes sel ∷ [])) walked ∙ alone (last_fault bytes sel)

-- the fault at the end, as the code computes it
pub last-is : (bytes : List ℕ) (sel : Selection) (end at : ℕ) (last : Place) → end ≡ length bytes → at ≡ end_of 4 (read bytes sel.stop)
    → last ≡ place (reverse (range sel (placed_from 4 (read bytes sel.stop)))) → last_fault bytes sel ≡ end_fault end sel last at
last-is bytes sel end at last ends here is = λ i. end_fault (sym ends i) sel (sym is i) (sym here i)

-- the progress of an accepted log has the groups
pub progress-is : (bytes : List ℕ) (sel : Selection) → IsAccepted bytes sel → HavePassed sel (reverse (range sel (placed_from 4 (read bytes sel.stop))))
    → progress sel (reverse (range sel (placed_from 4 (read bytes sel.stop)))) ≡ record { done = placed_groups bytes sel; current = None }
progress-is bytes sel accepted passed =
    λ i. record { done = sym (accepted-groups bytes sel accepted) i; current = none-open sel _ passed (accepted-outside bytes sel accepted) i }
