-- Where no later change takes a row by the fingerprints of those that were left, the selected changes are untouched.
use Rattle.std.proofs.Common.{◌≡◌, ℕ, Bool, true, false, not, ◌&&◌, ◌||◌, cond, List, [], ◌∷◌, map, Option, Some, None, refl, sym, ap, ap₂, ◌∙◌, arith}
use Rattle.std.specs.Prelude.{filter, length, option_map, nat_eq}
use Rattle.std.specs.List.{cons_option, list_any}
use Rattle.std.proofs.lemmas.Bool.{and_from, cond-false, cond-true, false≢true}
use Rattle.blog_trans.specs.Changes.{Change}
use Rattle.blog_undo.specs.ByRows.{has_print_among, is_among, passes}
use Rattle.blog_undo.specs.Mixed.{Marked, TableRow, is_untouched, leaves, takes}
use Rattle.blog_undo.proofs.OnePass.{print-among, rows-decide}
use Rattle.blog_later.specs.Prints.{AreKept, HavePrints, Left, left_of, print_of, prints_left, table_print, takes_left}
use Rattle.blog_later.specs.Laws.{and_later}

abbrev others : List Change → List Marked
others later = map (λ c. record { change = c; selected = false }) later

-- ---- the same fingerprints

same-among : (f : TableRow → ℕ) (ps qs : List ℕ) → HavePrints qs ps → (r : Option TableRow) → has_print_among f r ps ≡ has_print_among f r qs
same-among f ps qs same None = refl
same-among f ps qs same (Some r) = same (f r)

pub same-taken : (kept left : Left) → AreKept left kept → (c : Change) → takes_left kept c ≡ takes_left left c
same-taken kept left (rows, tables) c =
    ap₂ ◌&&◌ (same-among (λ r. table_print r.table) kept.tables left.tables tables (takes c)) (same-among print_of kept.rows left.rows rows (takes c))

-- tests that agree count the same
filtered-alike : {A : Type 0} (f g : A → Bool) → ((x : A) → f x ≡ g x) → (xs : List A) → filter f xs ≡ filter g xs
filtered-alike {A = A} f g is [] = refl
filtered-alike {A = A} f g is (x ∷ xs) = ap (λ b. cond b (x ∷ filter f xs) (filter f xs)) (is x) ∙ ap (λ (ys : List A). cond (g x) (x ∷ ys) ys) (filtered-alike f g is xs)

-- so changes take as many rows
pub as-many-taken : (kept left : Left) → AreKept left kept → (cs : List Change) → length (filter (takes_left kept) cs) ≡ length (filter (takes_left left) cs)
as-many-taken kept left same cs = ap length (filtered-alike (takes_left kept) (takes_left left) (same-taken kept left same) cs)

-- ---- rows that are left

-- a test that holds of no element
pub none-holds : (test : Change → Bool) (c : Change) (cs : List Change) → length (filter test (c ∷ cs)) ≡ 0 → (test c ≡ false) × (length (filter test cs) ≡ 0)
none-holds test c cs e = by_case (test c) refl
  where
    by_case : (b : Bool) → test c ≡ b → (test c ≡ false) × (length (filter test cs) ≡ 0)
    by_case false is = (is, sym (ap length (cond-false (test c) (c ∷ filter test cs) (filter test cs) is)) ∙ e)
    by_case true is =
        let more : length (c ∷ filter test cs) ≡ 0 = sym (ap length (cond-true (test c) (c ∷ filter test cs) (filter test cs) is)) ∙ e in
        absurd (omega (arith, more))

-- the fingerprints of these rows
abbrev of_rows : List TableRow → Left
of_rows rows = record { rows = map print_of rows; tables = map (λ r. table_print r.table) rows }

-- a change that takes none by their fingerprints takes none of them
none-among : (rows : List TableRow) (c : Change) → takes_left (of_rows rows) c ≡ false → not (is_among (takes c) rows) ≡ true
none-among rows c e = by_case (is_among (takes c) rows) refl
  where
    by_case : (b : Bool) → is_among (takes c) rows ≡ b → not (is_among (takes c) rows) ≡ true
    by_case false is = ap not is
    by_case true is =
        let both = and_from _ _ (print-among (λ r. table_print r.table) (takes c) rows is) (print-among print_of (takes c) rows is) in
        absurd (false≢true (sym e ∙ both))

others-pass : (rows : List TableRow) (later : List Change) → length (filter (takes_left (of_rows rows)) later) ≡ 0 → passes rows (others later) ≡ true
others-pass rows [] e = refl
others-pass rows (c ∷ later) e =
    let (free, rest) = none-holds (takes_left (of_rows rows)) c later e in and_from _ _ (none-among rows c free) (others-pass rows later rest)

-- ---- more rows

-- these fingerprints are those that changes leave, and others
abbrev AreWith : (TableRow → ℕ) → List Change → List ℕ → List ℕ → Type 0
AreWith f selected prints ps = (p : ℕ) → list_any (nat_eq p) ps ≡ (list_any (nat_eq p) (prints_left f selected) || list_any (nat_eq p) prints)

one-more : (o : Option ℕ) (p : ℕ) (more prints : List ℕ)
    → (list_any (nat_eq p) more || list_any (nat_eq p) (cons_option o prints)) ≡ (list_any (nat_eq p) (cons_option o more) || list_any (nat_eq p) prints)
one-more None p more prints = refl
one-more (Some q) p more prints = swapped (nat_eq p q) (list_any (nat_eq p) more) (list_any (nat_eq p) prints)
  where
    swapped : (a b c : Bool) → (b || (a || c)) ≡ ((a || b) || c)
    swapped true true c = refl
    swapped true false c = refl
    swapped false true c = refl
    swapped false false c = refl

mapped : (f : TableRow → ℕ) (o : Option TableRow) (rows : List TableRow) → map f (cons_option o rows) ≡ cons_option (option_map f o) (map f rows)
mapped f None rows = refl
mapped f (Some r) rows = refl

with-more : (f : TableRow → ℕ) (c : Change) (selected : List Change) (rows : List TableRow) (ps : List ℕ) → AreWith f selected (map f (cons_option (leaves c) rows)) ps → AreWith f (c ∷ selected) (map f rows) ps
with-more f c selected rows ps with p =
    with p ∙ ap (λ (qs : List ℕ). list_any (nat_eq p) (prints_left f selected) || list_any (nat_eq p) qs) (mapped f (leaves c) rows)
    ∙ one-more (option_map f (leaves c)) p (prints_left f selected) (map f rows)

abbrev HaveWith : List Change → List TableRow → Left → Type 0
HaveWith selected rows left = AreWith print_of selected (map print_of rows) left.rows × AreWith (λ r. table_print r.table) selected (map (λ r. table_print r.table) rows) left.tables

-- the selected ones leave their rows in front of others
all-pass : (rows : List TableRow) (selected later : List Change) → ((left : Left) → HaveWith selected rows left → length (filter (takes_left left) later) ≡ 0) → passes rows (and_later selected later) ≡ true
all-pass rows [] later none = others-pass rows later (none (of_rows rows) ((λ p. refl), (λ p. refl)))
all-pass rows (c ∷ selected) later none =
    all-pass (cons_option (leaves c) rows) selected later
    (λ left with. none left (with-more print_of c selected rows left.rows with.0, with-more (λ r. table_print r.table) c selected rows left.tables with.1))

none-or : (b : Bool) → (b || false) ≡ b
none-or true = refl
none-or false = refl

pub prints-of-left-suffice : (selected later : List Change) → length (filter (takes_left (left_of selected)) later) ≡ 0 → is_untouched (and_later selected later) ≡ true
prints-of-left-suffice selected later none =
    rows-decide (and_later selected later)
    ∙ all-pass [] selected later
    (λ left with. as-many-taken left (left_of selected)
    ((λ p. with.0 p ∙ none-or (list_any (nat_eq p) (prints_left print_of selected))), (λ p. with.1 p ∙ none-or (list_any (nat_eq p) (prints_left (λ r. table_print r.table) selected)))) later ∙ none)
