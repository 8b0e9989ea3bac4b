-- One pass over changes decides whether others touch the selected ones.
use Rattle.std.proofs.Common.{◌≡◌, ℕ, Bool, true, false, not, ◌&&◌, ◌||◌, cond, List, [], ◌∷◌, map, Option, Some, None, refl, sym, ap, ◌∙◌}
use Rattle.std.specs.Prelude.{option_map}
use Rattle.std.specs.List.{cons_option, list_all}
use Rattle.std.proofs.lemmas.Bool.{false≢true, cond-true, cond-false, and_from, and_parts, eq-eqb, or_cases, or_left, or_right}
use Rattle.blog_trans.specs.Changes.{Change}
use Rattle.blog_undo.specs.Mixed.{Marked, TableRow, is_left_alone, is_same_row, is_untouched, leaves, takes, touches}
use Rattle.blog_undo.specs.ByRows.{has_print_among, is_among, passes, passes_by}
use Rattle.blog_undo.proofs.Rows.{is_row-Decides}
use mathlib.Core.Logic.{⊎_elim}

-- ---- by rows

-- no change that isn't selected takes one of these rows
abbrev takes_none : List TableRow → List Marked → Bool
takes_none rows ms = list_all (λ m. m.selected || not (is_among (takes m.change) rows)) ms

none-same : (r : Option TableRow) → is_same_row r None ≡ false
none-same None = refl
none-same (Some r) = refl

-- a row is added
among-more : (r l : Option TableRow) (rows : List TableRow) → is_among r (cons_option l rows) ≡ (is_same_row r l || is_among r rows)
among-more r None rows = ap (λ b. b || is_among r rows) (sym (none-same r))
among-more r (Some l) rows = refl

split-tests : (s a b x y : Bool) → ((s || not (a || b)) && (x && y)) ≡ (((s || not a) && x) && ((s || not b) && y))
split-tests true a b x y = refl
split-tests false true b x y = refl
split-tests false false true true y = refl
split-tests false false true false y = refl
split-tests false false false x y = refl

takes_none-more : (c : Change) (rows : List TableRow) (ms : List Marked) → takes_none (cons_option (leaves c) rows) ms ≡ (is_left_alone c ms && takes_none rows ms)
takes_none-more c rows [] = refl
takes_none-more c rows (m ∷ ms) =
    ap (λ b. (m.selected || not b) && takes_none (cons_option (leaves c) rows) ms) (among-more (takes m.change) (leaves c) rows)
    ∙ ap (λ b. (m.selected || not (touches m.change c || is_among (takes m.change) rows)) && b) (takes_none-more c rows ms)
    ∙ split-tests m.selected (touches m.change c) (is_among (takes m.change) rows) (is_left_alone c ms) (takes_none rows ms)

-- the tests of one change, by whether it is selected
one-test : (s a left none free : Bool) → cond s ((left && none) && free) (not a && (none && free)) ≡ (((s || not a) && none) && ((not s || left) && free))
one-test true a true none free = refl
one-test true a false true free = refl
one-test true a false false free = refl
one-test false true left none free = refl
one-test false false left none free = refl

passes-is : (rows : List TableRow) (ms : List Marked) → passes rows ms ≡ (takes_none rows ms && is_untouched ms)
passes-is rows [] = refl
passes-is rows (m ∷ ms) =
    let a = is_among (takes m.change) rows in
    ap (λ b. cond m.selected b (not a && passes rows ms)) (passes-is (cons_option (leaves m.change) rows) ms ∙ ap (λ b. b && is_untouched ms) (takes_none-more m.change rows ms))
    ∙ ap (λ b. cond m.selected ((is_left_alone m.change ms && takes_none rows ms) && is_untouched ms) (not a && b)) (passes-is rows ms)
    ∙ one-test m.selected a (is_left_alone m.change ms) (takes_none rows ms) (is_untouched ms)

none-at-first : (ms : List Marked) → takes_none [] ms ≡ true
none-at-first [] = refl
none-at-first (m ∷ ms) = and_from _ _ (or_right m.selected true refl) (none-at-first ms)

pub rows-decide : (ms : List Marked) → is_untouched ms ≡ passes [] ms
rows-decide ms = sym (passes-is [] ms ∙ ap (λ b. b && is_untouched ms) (none-at-first ms))

-- ---- by fingerprints

-- a row that is among others has its fingerprint among theirs
pub print-among : (f : TableRow → ℕ) (r : Option TableRow) (rows : List TableRow) → is_among r rows ≡ true → has_print_among f r (map f rows) ≡ true
print-among f r [] e = absurd (false≢true e)
print-among f None (s ∷ rows) e = print-among f None rows e
print-among f (Some r) (s ∷ rows) e = ⊎_elim
    (λ same. let (t, q) = (is_row-Decides r.table r.row s.table s.row).0 same in or_left _ _ (eq-eqb (f r) (f s) (ap f (λ i. record { table = t i; row = q i }))))
    (λ later. or_right _ _ (print-among f (Some r) rows later))
    (or_cases (is_same_row (Some r) (Some s)) (is_among (Some r) rows) e)

-- so where its fingerprint isn't, the row isn't
none-among : (f : TableRow → ℕ) (r : Option TableRow) (rows : List TableRow) → not (has_print_among f r (map f rows)) ≡ true → not (is_among r rows) ≡ true
none-among f r rows e = by_case (is_among r rows) refl
  where
    by_case : (b : Bool) → is_among r rows ≡ b → not (is_among r rows) ≡ true
    by_case false is = ap not is
    by_case true is = absurd (false≢true (sym (ap not (print-among f r rows is)) ∙ e))

print-added : (f : TableRow → ℕ) (l : Option TableRow) (rows : List TableRow) → cons_option (option_map f l) (map f rows) ≡ map f (cons_option l rows)
print-added f None rows = refl
print-added f (Some l) rows = refl

by-prints : (f : TableRow → ℕ) (rows : List TableRow) (ms : List Marked) → passes_by f (map f rows) ms ≡ true → passes rows ms ≡ true
by-prints f rows [] e = refl
by-prints f rows (m ∷ ms) e = by_case m.selected refl (by-prints f (cons_option (leaves m.change) rows) ms) (by-prints f rows ms)
  where
    by_case : (b : Bool) → m.selected ≡ b
        → (passes_by f (map f (cons_option (leaves m.change) rows)) ms ≡ true → passes (cons_option (leaves m.change) rows) ms ≡ true)
        → (passes_by f (map f rows) ms ≡ true → passes rows ms ≡ true)
        → passes rows (m ∷ ms) ≡ true
    by_case true is more same =
        let passed : passes_by f (cons_option (option_map f (leaves m.change)) (map f rows)) ms ≡ true = sym (cond-true m.selected _ _ is) ∙ e in
        cond-true m.selected _ _ is ∙ more (sym (ap (λ prints. passes_by f prints ms) (print-added f (leaves m.change) rows)) ∙ passed)
    by_case false is more same =
        let (none, rest) = and_parts _ _ (sym (cond-false m.selected _ _ is) ∙ e) in
        cond-false m.selected _ _ is ∙ and_from _ _ (none-among f (takes m.change) rows none) (same rest)

pub prints-suffice : (f : TableRow → ℕ) (ms : List Marked) → passes_by f [] ms ≡ true → is_untouched ms ≡ true
prints-suffice f ms e = rows-decide ms ∙ by-prints f [] ms e
