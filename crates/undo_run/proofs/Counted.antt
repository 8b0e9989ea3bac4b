-- How many changes of steps, and of later logs after them, take rows that were left before.
use Rattle.std.proofs.Common.{◌≡◌, ℕ, ◌+◌, ◌≤◌, Bool, true, false, List, [], ◌∷◌, ◌++◌, length, map, take, refl, sym, ap, ap₂, subst, ◌∙◌, arith, append-nil}
use Rattle.std.specs.Prelude.{filter, if◌then◌else◌}
use Rattle.std.specs.List.{flat_map}
use Rattle.std.proofs.lemmas.Bool.{cond-false, cond-true}
use Rattle.std.proofs.lemmas.List.{take_all}
use Rattle.std.proofs.lemmas.List.Concat.{flat_map-append}
use Rattle.blog_later.proofs.Counting.{count-append}
use Rattle.blog_later.proofs.Untouched.{as-many-taken}
use Rattle.blog_later.specs.Among.{Step, Selected, Other, from_first, selected_in, touches_by, touches_from, chosen_of}
use Rattle.blog_later.specs.Later.{changes_in, touches_in, unit_changes}
use Rattle.blog_later.specs.Prints.{AreKept, Left, left_by, left_of, prints_left, print_of, table_print, takes_left}
use Rattle.blog_trans.specs.Changes.{Change, changes}
use Rattle.blog_trans.specs.Selection.{Selection}
use Rattle.blog_units.specs.Units.{Facts, range_of_unit}
use Rattle.undo_run.specs.After.{Later, later_changes, later_step, touches}
use Rattle.undo_run.specs.Units.{chosen_units, step_of, units_of_part, units_on}
use Rattle.undo_run.specs.code.Steps.{CountsOn, chosen_changes}

-- ---- later logs

pub touches-more : (left : Left) (ls ks : List Later) → touches left (ls ++ ks) ≡ touches left ls + touches left ks
touches-more left ls ks =
    ap (λ (cs : List Change). length (filter (takes_left left) cs)) (flat_map-append (λ (l : Later). changes_in l.handed l.units) ls ks) ∙ count-append (takes_left left) (later_changes ls) (later_changes ks)

touches-later : (css : List (List Change)) (k : ℕ) (ls : List Later) → touches_from css k (map later_step ls) ≡ touches (left_by k css) ls
touches-later css k [] = refl
touches-later css k (l ∷ ls) =
    ap (λ (n : ℕ). length (filter (takes_left (left_by k css)) (changes_in l.handed l.units)) + n) (touches-later css k ls)
    ∙ sym (count-append (takes_left (left_by k css)) (changes_in l.handed l.units) (later_changes ls))

pub selected-later : (ss : List Step) (ls : List Later) → selected_in (ss ++ map later_step ls) ≡ selected_in ss
selected-later [] [] = refl
selected-later [] (l ∷ ls) = selected-later [] ls
selected-later (Selected cs ∷ ss) ls = ap (λ (css : List (List Change)). cs ∷ css) (selected-later ss ls)
selected-later (Other cs ∷ ss) ls = selected-later ss ls

touches-on : (css : List (List Change)) (k : ℕ) (ss : List Step) (ls : List Later) → touches_from css k (ss ++ map later_step ls) ≡ touches_from css k ss + touches (left_by (k + length (selected_in ss)) css) ls
touches-on css k [] ls =
    let none : k + 0 ≡ k = omega arith in
    let same = touches-later css k ls in
    let moved = ap (λ (n : ℕ). touches (left_by n css) ls) none in
    omega (arith, same, moved)
touches-on css k (Selected cs ∷ ss) ls =
    let next : (k + 1) + length (selected_in ss) ≡ k + length (cs ∷ selected_in ss) = omega arith in
    touches-on css (k + 1) ss ls ∙ ap (λ (n : ℕ). touches_from css (k + 1) ss + touches (left_by n css) ls) next
touches-on css k (Other cs ∷ ss) ls =
    let more = touches-on css k ss ls in
    omega (arith, more)

-- as many changes of later logs take one of the rows that all lists left
pub counts-on : (kept : Left) (lists m : ℕ) (ss : List Step) → AreKept (left_by lists (selected_in ss)) kept → length (selected_in ss) ≤ lists → touches_from (selected_in ss) 0 ss ≡ m → CountsOn kept m ss
counts-on kept lists m ss same enough first ls =
    let css = selected_in ss in
    let all : take lists css ≡ take (0 + length css) css = take_all lists css enough ∙ sym (take_all (0 + length css) css (omega arith)) in
    let by : List (List Change) → Left = λ ds. record { rows = prints_left print_of (flat_map (λ cs. cs) ds); tables = prints_left (λ r. table_print r.table) (flat_map (λ cs. cs) css) } in
    let lefts : left_by lists css ≡ left_by (0 + length css) css = ap by all in
    let later : touches kept ls ≡ touches (left_by (0 + length css) css) ls = as-many-taken kept (left_by lists css) same (later_changes ls) ∙ ap (λ (left : Left). touches left ls) lefts in
    ap₂ (λ (a b : ℕ). a + b) (sym first) later ∙ sym (touches-on css 0 ss ls) ∙ ap (λ (ds : List (List Change)). touches_from ds 0 (ss ++ map later_step ls)) (sym (selected-later ss ls))

-- ---- a part, and what comes after it

left-of-one : (cs : List Change) → left_by 1 (cs ∷ []) ≡ left_of cs
left-of-one cs = ap left_of (append-nil cs)

pub part-counts : (kept : Left) (cs : List Change) (l : Later) → AreKept (left_of cs) kept → CountsOn kept (0 + touches_in kept l.handed l.units) (Selected cs ∷ later_step l ∷ [])
part-counts kept cs l same =
    let by : AreKept (left_by 1 (cs ∷ [])) kept = subst (λ (left : Left). AreKept left kept) (sym (left-of-one cs)) same in
    let as_many = as-many-taken kept (left_by 1 (cs ∷ [])) by (changes_in l.handed l.units) in
    counts-on kept 1 (0 + touches_in kept l.handed l.units) (Selected cs ∷ later_step l ∷ []) by (omega arith) (omega (arith, as_many))

-- ---- units, of which some are chosen

pub chosen-on : (p : Facts → Bool) (us : List Facts) → chosen_of p (from_first p us) ≡ chosen_of p us
chosen-on p [] = refl
chosen-on p (u ∷ us) = by_case (p u) refl (chosen-on p us)
  where
    by_case : (b : Bool) → p u ≡ b → chosen_of p (from_first p us) ≡ chosen_of p us → chosen_of p (from_first p (u ∷ us)) ≡ chosen_of p (u ∷ us)
    by_case true e later = ap (chosen_of p) (cond-true (p u) (u ∷ us) (from_first p us) e)
    by_case false e later = ap (chosen_of p) (cond-false (p u) (u ∷ us) (from_first p us) e) ∙ later ∙ sym (cond-false (p u) (u ∷ chosen_of p us) (chosen_of p us) e)

selected-steps : (p : Facts → Bool) (sel : Selection) (handed : List ℕ) (us : List Facts) → selected_in (map (step_of p sel handed) us) ≡ chosen_changes sel handed (chosen_of p us)
selected-steps p sel handed [] = refl
selected-steps p sel handed (u ∷ us) = by_case (p u) refl (selected-steps p sel handed us)
  where
    own : List Change
    own = changes handed (range_of_unit sel u)

    by_case : (b : Bool) → p u ≡ b → selected_in (map (step_of p sel handed) us) ≡ chosen_changes sel handed (chosen_of p us)
        → selected_in (map (step_of p sel handed) (u ∷ us)) ≡ chosen_changes sel handed (chosen_of p (u ∷ us))
    by_case true e later =
        ap (λ (s : Step). selected_in (s ∷ map (step_of p sel handed) us)) (cond-true (p u) (Selected own) (Other (unit_changes handed u)) e)
        ∙ ap (λ (css : List (List Change)). own ∷ css) later
        ∙ sym (ap (chosen_changes sel handed) (cond-true (p u) (u ∷ chosen_of p us) (chosen_of p us) e))
    by_case false e later =
        ap (λ (s : Step). selected_in (s ∷ map (step_of p sel handed) us)) (cond-false (p u) (Selected own) (Other (unit_changes handed u)) e)
        ∙ later
        ∙ sym (ap (chosen_changes sel handed) (cond-false (p u) (u ∷ chosen_of p us) (chosen_of p us) e))

-- the changes of the chosen ones are the selected ones of all from the first chosen one on
pub selected-chosen : (p : Facts → Bool) (sel : Selection) (handed : List ℕ) → selected_in (map (step_of p sel handed) (units_on p sel handed)) ≡ chosen_changes sel handed (chosen_units p sel handed)
selected-chosen p sel handed = selected-steps p sel handed (units_on p sel handed) ∙ ap (chosen_changes sel handed) (chosen-on p (units_of_part sel handed))

touches-steps : (lefts : ℕ → Left) (css : List (List Change)) (p : Facts → Bool) (sel : Selection) (handed : List ℕ) → ((j : ℕ) → AreKept (left_by j css) (lefts j)) → (k : ℕ) (us : List Facts)
    → touches_from css k (map (step_of p sel handed) us) ≡ touches_by lefts p handed k us
touches-steps lefts css p sel handed same k [] = refl
touches-steps lefts css p sel handed same k (u ∷ us) = by_case (p u) refl (touches-steps lefts css p sel handed same (k + 1) us) (touches-steps lefts css p sel handed same k us)
  where
    steps : List Step
    steps = map (step_of p sel handed) us

    both : (b : Bool) → p u ≡ b → step_of p sel handed u ≡ (if b then Selected (changes handed (range_of_unit sel u)) else Other (unit_changes handed u))
    both b e = ap (λ (c : Bool). if c then Selected (changes handed (range_of_unit sel u)) else Other (unit_changes handed u)) e

    by_case : (b : Bool) → p u ≡ b → touches_from css (k + 1) steps ≡ touches_by lefts p handed (k + 1) us → touches_from css k steps ≡ touches_by lefts p handed k us
        → touches_from css k (map (step_of p sel handed) (u ∷ us)) ≡ touches_by lefts p handed k (u ∷ us)
    by_case true e next later =
        ap (λ (s : Step). touches_from css k (s ∷ steps)) (both true e) ∙ next
        ∙ sym (cond-true (p u) (touches_by lefts p handed (k + 1) us) (touches_in (lefts k) handed (u ∷ []) + touches_by lefts p handed k us) e)
    by_case false e next later =
        let one : length (filter (takes_left (left_by k css)) (unit_changes handed u)) ≡ touches_in (lefts k) handed (u ∷ []) =
        sym (as-many-taken (lefts k) (left_by k css) (same k) (unit_changes handed u)) ∙ ap (λ (cs : List Change). length (filter (takes_left (lefts k)) cs)) (sym (append-nil (unit_changes handed u))) in
        ap (λ (s : Step). touches_from css k (s ∷ steps)) (both false e)
        ∙ ap₂ (λ (a b : ℕ). a + b) one later
        ∙ sym (cond-false (p u) (touches_by lefts p handed (k + 1) us) (touches_in (lefts k) handed (u ∷ []) + touches_by lefts p handed k us) e)

pub units-count : (lefts : ℕ → Left) (lists : ℕ) (p : Facts → Bool) (sel : Selection) (handed : List ℕ) → ((j : ℕ) → AreKept (left_by j (chosen_changes sel handed (chosen_units p sel handed))) (lefts j))
    → length (chosen_changes sel handed (chosen_units p sel handed)) ≤ lists → CountsOn (lefts lists) (0 + touches_by lefts p handed 0 (units_on p sel handed)) (map (step_of p sel handed) (units_on p sel handed))
units-count lefts lists p sel handed same enough =
    let ss = map (step_of p sel handed) (units_on p sel handed) in
    let chosen = selected-chosen p sel handed in
    let kept : (j : ℕ) → AreKept (left_by j (selected_in ss)) (lefts j) = λ j. subst (λ (css : List (List Change)). AreKept (left_by j css) (lefts j)) (sym chosen) (same j) in
    let few = ap length chosen in
    let counted = touches-steps lefts (selected_in ss) p sel handed kept 0 (units_on p sel handed) in
    counts-on (lefts lists) lists (0 + touches_by lefts p handed 0 (units_on p sel handed)) ss (kept lists) (omega (arith, few, enough)) (omega (arith, counted))
