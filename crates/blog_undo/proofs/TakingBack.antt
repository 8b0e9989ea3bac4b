-- Selected changes that no other change touches are made after the others just as well, and so can be undone.
use Rattle.std.proofs.Common.{◌≡◌, Bool, true, false, not, ◌||◌, List, [], ◌∷◌, Some, option_and_then, refl, sym, ap, ◌∙◌}
use Rattle.std.proofs.lemmas.Bool.{and_parts, not-true}
use Rattle.std.proofs.lemmas.Option.{same_Some}
use Rattle.blog_row.proofs.Cutting.{and_then_found}
use Rattle.blog_trans.specs.Changes.{Change, Inserted, Deleted, Updated}
use Rattle.blog_flash.specs.States.{State, insert_row, delete_row, apply, apply_all}
use Rattle.blog_flash.proofs.Undoing.{undo_all}
use Rattle.blog_undo.specs.Mixed.{Marked, all_changes, is_left_alone, is_untouched, leaves, other_changes, selected_changes, takes, touches}
use Rattle.blog_undo.specs.Laws.{TakesBack}
use Rattle.blog_undo.proofs.Rows.{leave_row, leave-swap, take_row, take-before, take-more, take-swap}

-- ---- two changes

-- a change takes a row, and then leaves one
takes-and-leaves : (c : Change) (before after : State) → apply c before ≡ Some after
    → (between : State) × (take_row (takes c) before ≡ Some between) × (leave_row (leaves c) between ≡ after)
takes-and-leaves (Inserted t r) before after e = (before, refl, same_Some _ _ e)
takes-and-leaves (Deleted t r) before after e = (after, e, refl)
takes-and-leaves (Updated t old new) before after e =
    let (between, taken, put) = and_then_found (λ (left : State). Some (insert_row t new left)) (delete_row t old before) after e in
    (between, taken, same_Some _ _ put)

from-takes : (c : Change) (before between : State) → take_row (takes c) before ≡ Some between → apply c before ≡ Some (leave_row (leaves c) between)
from-takes (Inserted t r) before between e = ap (λ (x : State). Some (insert_row t r x)) (same_Some _ _ e)
from-takes (Deleted t r) before between e = e
from-takes (Updated t old new) before between e = ap (option_and_then (λ (x : State). Some (insert_row t new x))) e

-- of two changes the second can come first, if it doesn't touch the first
swap : (c d : Change) (before between after : State) → touches d c ≡ false → apply c before ≡ Some between → apply d between ≡ Some after
    → (other : State) × (apply d before ≡ Some other) × (apply c other ≡ Some after)
swap c d before between after apart first second =
    let (x, taken_c, left_c) = takes-and-leaves c before between first in
    let (y, taken_d, left_d) = takes-and-leaves d between after second in
    let (both, early_d, rest_d) = take-before (takes d) (leaves c) x y apart (ap (take_row (takes d)) left_c ∙ taken_d) in
    let (z, alone_d, late_c) = take-swap (takes d) (takes c) before x both taken_c early_d in (
      leave_row (leaves d) z,
      from-takes d before z alone_d,
      from-takes c (leave_row (leaves d) z) (leave_row (leaves d) both) (take-more (takes c) (leaves d) z both late_c)
          ∙ ap Some (leave-swap (leaves c) (leaves d) both ∙ ap (leave_row (leaves d)) rest_d ∙ left_d),
    )

-- ---- the parts of a list

-- a selected change comes first among the selected ones, and isn't among the others
other-selected : (m : Marked) (ms : List Marked) → m.selected ≡ true → other_changes (m ∷ ms) ≡ other_changes ms
other-selected m ms e = rw e refl

selected-selected : (m : Marked) (ms : List Marked) → m.selected ≡ true → selected_changes (m ∷ ms) ≡ m.change ∷ selected_changes ms
selected-selected m ms e = rw e refl

-- and the other way round
other-other : (m : Marked) (ms : List Marked) → m.selected ≡ false → other_changes (m ∷ ms) ≡ m.change ∷ other_changes ms
other-other m ms e = rw e refl

selected-other : (m : Marked) (ms : List Marked) → m.selected ≡ false → selected_changes (m ∷ ms) ≡ selected_changes ms
selected-other m ms e = rw e refl

-- ---- a change and the others after it

-- a change that none of the others touches can come after them
past : (c : Change) (ms : List Marked) (before between after : State) → is_left_alone c ms ≡ true → apply c before ≡ Some between → apply_all (other_changes ms) between ≡ Some after
    → (other : State) × (apply_all (other_changes ms) before ≡ Some other) × (apply c other ≡ Some after)
past c [] before between after free first rest = (before, refl, first ∙ rest)
past c (m ∷ ms) before between after free first rest = by_case m.selected refl (and_parts _ _ free) (past c ms)
  where
    by_case : (b : Bool) → m.selected ≡ b
        → ((m.selected || not (touches m.change c)) ≡ true) × (is_left_alone c ms ≡ true)
        → ((x y z : State) → is_left_alone c ms ≡ true → apply c x ≡ Some y → apply_all (other_changes ms) y ≡ Some z
        → (other : State) × (apply_all (other_changes ms) x ≡ Some other) × (apply c other ≡ Some z))
        → (other : State) × (apply_all (other_changes (m ∷ ms)) before ≡ Some other) × (apply c other ≡ Some after)
    by_case true is frees later =
        let none = ap (λ cs. apply_all cs between) (other-selected m ms is) in
        let (other, others, last) = later before between after frees.1 first (sym none ∙ rest) in
        (other, ap (λ cs. apply_all cs before) (other-selected m ms is) ∙ others, last)
    by_case false is frees later =
        let apart : touches m.change c ≡ false = not-true _ (sym (ap (λ b. b || not (touches m.change c)) is) ∙ frees.0) in
        let one = ap (λ cs. apply_all cs between) (other-other m ms is) in
        let (x, second, rests) = and_then_found (apply_all (other_changes ms)) (apply m.change between) after (sym one ∙ rest) in
        let (y, early, late) = swap c m.change before between x apart first second in
        let (other, others, last) = later y x after frees.1 late rests in
        (other, ap (λ cs. apply_all cs before) (other-other m ms is) ∙ ap (option_and_then (apply_all (other_changes ms))) early ∙ others, last)

-- ---- all of them

-- the others, and then the selected changes, lead to the same state
others-first : (ms : List Marked) (before after : State) → is_untouched ms ≡ true → apply_all (all_changes ms) before ≡ Some after
    → (alone : State) × (apply_all (other_changes ms) before ≡ Some alone) × (apply_all (selected_changes ms) alone ≡ Some after)
others-first [] before after free e = (before, refl, e)
others-first (m ∷ ms) before after free e =
    let (x, first, rest) = and_then_found (apply_all (all_changes ms)) (apply m.change before) after e in
    let frees = and_parts _ _ free in
    let (alone, others, last) = others-first ms x after frees.1 rest in
    by_case m.selected refl frees.0 x first alone others last
  where
    by_case : (b : Bool) → m.selected ≡ b → (not m.selected || is_left_alone m.change ms) ≡ true
        → (x : State) → apply m.change before ≡ Some x
        → (alone : State) → apply_all (other_changes ms) x ≡ Some alone → apply_all (selected_changes ms) alone ≡ Some after
        → (alone : State) × (apply_all (other_changes (m ∷ ms)) before ≡ Some alone) × (apply_all (selected_changes (m ∷ ms)) alone ≡ Some after)
    by_case true is frees x first alone others last =
        let left_alone : is_left_alone m.change ms ≡ true = sym (ap (λ b. not b || is_left_alone m.change ms) is) ∙ frees in
        let (other, early, late) = past m.change ms before x alone left_alone first others in (
          other,
          ap (λ cs. apply_all cs before) (other-selected m ms is) ∙ early,
          ap (λ cs. apply_all cs other) (selected-selected m ms is) ∙ ap (option_and_then (apply_all (selected_changes ms))) late ∙ last,
        )
    by_case false is frees x first alone others last = (
      alone,
      ap (λ cs. apply_all cs before) (other-other m ms is) ∙ ap (option_and_then (apply_all (other_changes ms))) first ∙ others,
      ap (λ cs. apply_all cs alone) (selected-other m ms is) ∙ last,
    )

pub takes-back : (ms : List Marked) → TakesBack ms
takes-back ms before after free e =
    let (alone, others, last) = others-first ms before after free e in
    record { alone = alone; others = others; undone = undo_all (selected_changes ms) alone after last; redone = last }
