-- Pairs when one more event or unit is added, and what is still to add.
use Rattle.std.proofs.Common.{◌≡◌, ℕ, zero, suc, Bool, true, false, List, [], ◌∷◌, ◌++◌, drop, length, map, take, refl, sym, ap, ap₂, ◌∙◌, arith}
use Rattle.std.specs.Prelude.{if◌then◌else◌}
use Rattle.std.specs.List.{list_all}
use Rattle.std.proofs.lemmas.Bool.{cond-false, cond-true, false≢true}
use Rattle.blog_later.specs.Among.{Step, Selected, Other, from_first, marked_in}
use Rattle.blog_later.specs.Later.{unit_changes}
use Rattle.blog_later.specs.code.EventChanges.{event_changes, events_changes}
use Rattle.blog_merge.specs.Merge.{pairs_after, pairs_by}
use Rattle.blog_merge.specs.Pairs.{Pair}
use Rattle.blog_pairs.specs.Steps.{marked_by, pairs_with, unmarked}
use Rattle.blog_trans.specs.Changes.{Change, changes}
use Rattle.blog_trans.specs.Selection.{Selection}
use Rattle.blog_trans.specs.code.InTurn.{GroupEvent}
use Rattle.blog_undo.specs.Mixed.{Marked}
use Rattle.blog_units.specs.Units.{Facts, range_of_unit}
use Rattle.blog_untouched.specs.Steps.{unit_step}
use Rattle.blog_differences.specs.Outside.{outside_by}
use Rattle.blog_differences.proofs.Outside.{outside_others, outside_selected}

-- ---- marks

-- only as many are looked at as there are changes
pub unmarked_own : {X : Type 0} (marks : List Bool) (xs : List X) → unmarked (take (length xs) marks) xs ≡ unmarked marks xs
unmarked_own [] [] = refl
unmarked_own (mark ∷ marks) [] = refl
unmarked_own [] (x ∷ xs) = refl
unmarked_own (true ∷ marks) (x ∷ xs) = unmarked_own marks xs
unmarked_own {X} (false ∷ marks) (x ∷ xs) = ap (λ (ys : List X). x ∷ ys) (unmarked_own marks xs)

-- none is left if all are marked
pub all_marked : {X : Type 0} (marks : List Bool) (xs : List X) → list_all (λ is_marked. is_marked) marks ≡ true → length marks ≡ length xs → unmarked marks xs ≡ []
all_marked [] [] all long = refl
all_marked [] (x ∷ xs) all long = absurd (omega (arith, long))
all_marked (mark ∷ marks) [] all long = refl
all_marked (true ∷ marks) (x ∷ xs) all long = all_marked marks xs all (omega (arith, long))
all_marked (false ∷ marks) (x ∷ xs) all long = absurd (false≢true all)

unmarked_more : {X : Type 0} (marks : List Bool) (xs ys : List X) → unmarked marks (xs ++ ys) ≡ unmarked marks xs ++ unmarked (drop (length xs) marks) ys
unmarked_more [] [] ys = refl
unmarked_more (mark ∷ marks) [] ys = refl
unmarked_more [] (x ∷ xs) ys = refl
unmarked_more (true ∷ marks) (x ∷ xs) ys = unmarked_more marks xs ys
unmarked_more {X} (false ∷ marks) (x ∷ xs) ys = ap (λ (zs : List X). x ∷ zs) (unmarked_more marks xs ys)

marks_none : (n : ℕ) → drop {A = Bool} n [] ≡ []
marks_none zero = refl
marks_none (suc n) = refl

marks_more : {X : Type 0} (marks : List Bool) (xs ys : List X) → drop (length (xs ++ ys)) marks ≡ drop (length ys) (drop (length xs) marks)
marks_more marks [] ys = refl
marks_more [] (x ∷ xs) ys = sym (marks_none (length ys))
marks_more (mark ∷ marks) (x ∷ xs) ys = marks_more marks xs ys

-- ---- pairs

after_more : (ps : List Pair) (ms ns : List Marked) → pairs_after ps (ms ++ ns) ≡ pairs_after (pairs_after ps ms) ns
after_more ps [] ns = refl
after_more ps (m ∷ ms) ns = after_more (pairs_by m ps) ms ns

with_more : (selected : Bool) (cs ds : List Change) (ps : List Pair) → pairs_with selected (cs ++ ds) ps ≡ pairs_with selected ds (pairs_with selected cs ps)
with_more selected [] ds ps = refl
with_more selected (c ∷ cs) ds ps = with_more selected cs ds (pairs_with selected (c ∷ []) ps)

-- no selected changes
pub selected_none : (marks : List Bool) (ps : List Pair) → ps ≡ pairs_with true (unmarked marks []) ps
selected_none [] ps = refl
selected_none (mark ∷ marks) ps = refl

-- ---- events

-- one more event of a chosen unit
pub chosen_event : (e : GroupEvent) (before rest : List GroupEvent) (marks others : List Bool) (old new end : List Pair) → before ≡ e ∷ rest
    → new ≡ pairs_with true (unmarked marks (event_changes e)) old → others ≡ drop (length (event_changes e)) marks
    → pairs_with true (unmarked marks (events_changes before)) old ≡ end → pairs_with true (unmarked others (events_changes rest)) new ≡ end
chosen_event e before rest marks others old new end first done left is =
    let cs = event_changes e in
    let ds = events_changes rest in
    ap₂ (λ (ms : List Bool) (ps : List Pair). pairs_with true (unmarked ms ds) ps) left done
    ∙ sym (with_more true (unmarked marks cs) (unmarked (drop (length cs) marks) ds) old)
    ∙ sym (ap (λ xs. pairs_with true xs old) (unmarked_more marks cs ds))
    ∙ sym (ap (λ es. pairs_with true (unmarked marks (events_changes es)) old) first) ∙ is

-- its marks
pub event_marks : (e : GroupEvent) (before rest : List GroupEvent) (marks others end : List Bool) → before ≡ e ∷ rest → others ≡ drop (length (event_changes e)) marks
    → drop (length (events_changes before)) marks ≡ end → drop (length (events_changes rest)) others ≡ end
event_marks e before rest marks others end first left is =
    ap (drop (length (events_changes rest))) left
    ∙ sym (marks_more marks (event_changes e) (events_changes rest))
    ∙ sym (ap (λ es. drop (length (events_changes es)) marks) first) ∙ is

-- one more event of others
pub other_event : (e : GroupEvent) (before rest : List GroupEvent) (old new end : List Pair) → before ≡ e ∷ rest → new ≡ pairs_with false (event_changes e) old
    → pairs_with false (events_changes before) old ≡ end → pairs_with false (events_changes rest) new ≡ end
other_event e before rest old new end first done is =
    ap (pairs_with false (events_changes rest)) done
    ∙ sym (with_more false (event_changes e) (events_changes rest) old)
    ∙ sym (ap (λ es. pairs_with false (events_changes es) old) first) ∙ is

-- ---- steps

step_selected : (marks : List Bool) (cs : List Change) (ss : List Step) (ps : List Pair)
    → pairs_after ps (outside_by marks (marked_in (Selected cs ∷ ss))) ≡ pairs_after (pairs_with true (unmarked marks cs) ps) (outside_by (drop (length cs) marks) (marked_in ss))
step_selected marks cs ss ps =
    ap (pairs_after ps) (outside_selected marks cs (marked_in ss)) ∙ after_more ps (marked_by true (unmarked marks cs)) (outside_by (drop (length cs) marks) (marked_in ss))

step_other : (marks : List Bool) (cs : List Change) (ss : List Step) (ps : List Pair)
    → pairs_after ps (outside_by marks (marked_in (Other cs ∷ ss))) ≡ pairs_after (pairs_with false cs ps) (outside_by marks (marked_in ss))
step_other marks cs ss ps = ap (pairs_after ps) (outside_others marks cs (marked_in ss)) ∙ after_more ps (marked_by false cs) (outside_by marks (marked_in ss))

-- ---- units

-- those that count: all, once a chosen one came, and before that those from the first chosen one on
abbrev pub counting : (Facts → Bool) → Bool → List Facts → List Facts
counting p has_begun us = if has_begun then us else from_first p us

-- the pairs after the units that are left
abbrev pub after_units : (Facts → Bool) → Selection → List ℕ → Bool → List Bool → List Facts → List Pair → List Pair
after_units p sel bytes has_begun marks us ps = pairs_after ps (outside_by marks (marked_in (map (unit_step p sel bytes) (counting p has_begun us))))

counting_chosen : (p : Facts → Bool) (has_begun : Bool) (u : Facts) (before rest : List Facts) → before ≡ u ∷ rest → p u ≡ true → counting p has_begun before ≡ u ∷ rest
counting_chosen p true u before rest first chosen = first
counting_chosen p false u before rest first chosen = ap (from_first p) first ∙ cond-true (p u) (u ∷ rest) (from_first p rest) chosen

-- one more chosen unit
pub chosen_unit : (p : Facts → Bool) (sel : Selection) (bytes : List ℕ) (has_begun : Bool) (u : Facts) (before rest : List Facts) (marks others : List Bool) (old new end : List Pair)
    → before ≡ u ∷ rest → p u ≡ true → new ≡ pairs_with true (unmarked marks (changes bytes (range_of_unit sel u))) old → others ≡ drop (length (changes bytes (range_of_unit sel u))) marks
    → after_units p sel bytes has_begun marks before old ≡ end → after_units p sel bytes true others rest new ≡ end
chosen_unit p sel bytes has_begun u before rest marks others old new end first chosen done left is =
    let cs = changes bytes (range_of_unit sel u) in
    let ss = map (unit_step p sel bytes) rest in
    ap₂ (λ (ms : List Bool) (ps : List Pair). pairs_after ps (outside_by ms (marked_in ss))) left done
    ∙ sym (step_selected marks cs ss old)
    ∙ sym (ap (λ (s : Step). pairs_after old (outside_by marks (marked_in (s ∷ ss)))) (cond-true (p u) (Selected cs) (Other (unit_changes bytes u)) chosen))
    ∙ sym (ap (λ (us : List Facts). pairs_after old (outside_by marks (marked_in (map (unit_step p sel bytes) us)))) (counting_chosen p has_begun u before rest first chosen))
    ∙ is

-- one more of others
pub other_unit : (p : Facts → Bool) (sel : Selection) (bytes : List ℕ) (has_begun : Bool) (u : Facts) (before rest : List Facts) (marks : List Bool) (old new end : List Pair)
    → has_begun ≡ true → before ≡ u ∷ rest → p u ≡ false → new ≡ pairs_with false (unit_changes bytes u) old
    → after_units p sel bytes has_begun marks before old ≡ end → after_units p sel bytes has_begun marks rest new ≡ end
other_unit p sel bytes false u before rest marks old new end begun first other done is = absurd (false≢true begun)
other_unit p sel bytes true u before rest marks old new end begun first other done is =
    let cs = unit_changes bytes u in
    let ss = map (unit_step p sel bytes) rest in
    ap (λ (ps : List Pair). pairs_after ps (outside_by marks (marked_in ss))) done
    ∙ sym (step_other marks cs ss old)
    ∙ sym (ap (λ (s : Step). pairs_after old (outside_by marks (marked_in (s ∷ ss)))) (cond-false (p u) (Selected (changes bytes (range_of_unit sel u))) (Other cs) other))
    ∙ sym (ap (λ (us : List Facts). pairs_after old (outside_by marks (marked_in (map (unit_step p sel bytes) us)))) first)
    ∙ is

-- one that comes before the first chosen one
pub unit_before : (p : Facts → Bool) (sel : Selection) (bytes : List ℕ) (has_begun : Bool) (u : Facts) (before rest : List Facts) (marks : List Bool) (old end : List Pair)
    → has_begun ≡ false → before ≡ u ∷ rest → p u ≡ false → after_units p sel bytes has_begun marks before old ≡ end → after_units p sel bytes has_begun marks rest old ≡ end
unit_before p sel bytes true u before rest marks old end begun first other is = absurd (false≢true (sym begun))
unit_before p sel bytes false u before rest marks old end begun first other is =
    sym (ap (λ (us : List Facts). pairs_after old (outside_by marks (marked_in (map (unit_step p sel bytes) us)))) (ap (from_first p) first ∙ cond-false (p u) (u ∷ rest) (from_first p rest) other)) ∙ is

-- none is left
pub units_none : (p : Facts → Bool) (sel : Selection) (bytes : List ℕ) (has_begun : Bool) (before : List Facts) (marks : List Bool) (old end : List Pair)
    → before ≡ [] → after_units p sel bytes has_begun marks before old ≡ end → old ≡ end
units_none p sel bytes true before marks old end none is = sym (ap (λ (us : List Facts). after_units p sel bytes true marks us old) none) ∙ is
units_none p sel bytes false before marks old end none is = sym (ap (λ (us : List Facts). after_units p sel bytes false marks us old) none) ∙ is
