-- Where no change of others takes a row by the fingerprints of those that selected ones before it left, the selected ones are untouched.
use Rattle.std.proofs.Common.{◌≡◌, ℕ, ◌+◌, Bool, true, false, not, ◌&&◌, ◌||◌, cond, List, [], ◌∷◌, ◌++◌, length, map, take, Option, Some, None, refl, sym, ap, ap₂, ◌∙◌, arith, append_assoc, append-nil, length-append, take_at}
use Rattle.std.specs.Prelude.{filter, nat_eq, option_map}
use Rattle.std.specs.List.{cons_option, flat_map, list_any}
use Rattle.std.proofs.lemmas.Bool.{and_from, cond-false, cond-true, false≢true, or_cases, or_left, or_right}
use Rattle.std.proofs.lemmas.List.Concat.{flat_map-append}
use Rattle.std.proofs.lemmas.List.Folds.{list_any-append}
use Rattle.blog_trans.specs.Changes.{Change}
use Rattle.blog_undo.specs.ByRows.{has_print_among, is_among, passes}
use Rattle.blog_undo.specs.Mixed.{Marked, TableRow, is_untouched, leaves, takes}
use Rattle.blog_undo.proofs.OnePass.{print-among, rows-decide}
use Rattle.blog_later.specs.Among.{Step, Selected, Other, marked_in, selected_in, touches_among, touches_from}
use Rattle.blog_later.specs.Prints.{Left, left_by, print_of, prints_left, table_print, takes_left}
use Rattle.blog_later.proofs.Counting.{left-append}
use Rattle.blog_later.proofs.Untouched.{none-holds}
use mathlib.Core.Logic.{⊎_elim}

abbrev flat : List (List Change) → List Change
flat css = flat_map (λ cs. cs) css

-- ---- rows that are left, with those of more changes

abbrev with_rows : List Change → List TableRow → List TableRow
with_rows [] rows = rows
with_rows (c ∷ cs) rows = with_rows cs (cons_option (leaves c) rows)

passes-selected : (cs : List Change) (rows : List TableRow) (ms : List Marked) → passes rows (map (λ c. record { change = c; selected = true }) cs ++ ms) ≡ passes (with_rows cs rows) ms
passes-selected [] rows ms = refl
passes-selected (c ∷ cs) rows ms = passes-selected cs (cons_option (leaves c) rows) ms

-- ---- their fingerprints

-- each is one of these
abbrev AreOf : (TableRow → ℕ) → List TableRow → List ℕ → Type 0
AreOf f rows prints = (p : ℕ) → list_any (nat_eq p) (map f rows) ≡ true → list_any (nat_eq p) prints ≡ true

any-left : (p : ℕ) (xs ys : List ℕ) → list_any (nat_eq p) xs ≡ true → list_any (nat_eq p) (xs ++ ys) ≡ true
any-left p xs ys e = list_any-append (nat_eq p) xs ys ∙ or_left _ _ e

any-right : (p : ℕ) (xs ys : List ℕ) → list_any (nat_eq p) ys ≡ true → list_any (nat_eq p) (xs ++ ys) ≡ true
any-right p xs ys e = list_any-append (nat_eq p) xs ys ∙ or_right _ _ e

one-more : (f : TableRow → ℕ) (o : Option TableRow) (rows : List TableRow) (prints : List ℕ) → AreOf f rows prints → AreOf f (cons_option o rows) (prints ++ cons_option (option_map f o) [])
one-more f None rows prints are p e = any-left p prints [] (are p e)
one-more f (Some r) rows prints are p e =
    ⊎_elim (λ same. any-right p prints (f r ∷ []) (or_left _ _ same)) (λ later. any-left p prints (f r ∷ []) (are p later)) (or_cases (nat_eq p (f r)) (list_any (nat_eq p) (map f rows)) e)

joined : (o : Option ℕ) (prints later : List ℕ) → (prints ++ cons_option o []) ++ later ≡ prints ++ cons_option o later
joined None prints later = ap (λ (ps : List ℕ). ps ++ later) (append-nil prints)
joined (Some q) prints later = append_assoc prints (q ∷ []) later

with-changes : (f : TableRow → ℕ) (cs : List Change) (rows : List TableRow) (prints : List ℕ) → AreOf f rows prints → AreOf f (with_rows cs rows) (prints ++ prints_left f cs)
with-changes f [] rows prints are p e = any-left p prints [] (are p e)
with-changes f (c ∷ cs) rows prints are p e =
    ap (list_any (nat_eq p)) (sym (joined (option_map f (leaves c)) prints (prints_left f cs)))
    ∙ with-changes f cs (cons_option (leaves c) rows) (prints ++ cons_option (option_map f (leaves c)) []) (one-more f (leaves c) rows prints are) p e

-- ---- changes of others

found : (f : TableRow → ℕ) (rows : List TableRow) (prints : List ℕ) → AreOf f rows prints → (o : Option TableRow) → has_print_among f o (map f rows) ≡ true → has_print_among f o prints ≡ true
found f rows prints are None e = e
found f rows prints are (Some r) e = are (f r) e

none-of : (rows : List TableRow) (c : Change) (left : Left) → AreOf print_of rows left.rows → AreOf (λ r. table_print r.table) rows left.tables
    → takes_left left c ≡ false → not (is_among (takes c) rows) ≡ true
none-of rows c left of named free = by_case (is_among (takes c) rows) refl
  where
    by_case : (b : Bool) → is_among (takes c) rows ≡ b → not (is_among (takes c) rows) ≡ true
    by_case false is = ap not is
    by_case true is =
        let table = found (λ r. table_print r.table) rows left.tables named (takes c) (print-among (λ r. table_print r.table) (takes c) rows is) in
        let row = found print_of rows left.rows of (takes c) (print-among print_of (takes c) rows is) in
        absurd (false≢true (sym free ∙ and_from _ _ table row))

others-pass : (cs : List Change) (rows : List TableRow) (left : Left) (ms : List Marked) → AreOf print_of rows left.rows → AreOf (λ r. table_print r.table) rows left.tables
    → length (filter (takes_left left) cs) ≡ 0 → passes rows ms ≡ true → passes rows (map (λ c. record { change = c; selected = false }) cs ++ ms) ≡ true
others-pass [] rows left ms of named none rest = rest
others-pass (c ∷ cs) rows left ms of named none rest =
    let (free, more) = none-holds (takes_left left) c cs none in and_from _ _ (none-of rows c left of named free) (others-pass cs rows left ms of named more rest)

-- ---- in steps

flat-more : (f : TableRow → ℕ) (css : List (List Change)) (cs : List Change) → prints_left f (flat (css ++ cs ∷ [])) ≡ prints_left f (flat css) ++ prints_left f cs
flat-more f css cs = ap (prints_left f) (flat_map-append (λ cs. cs) css (cs ∷ []) ∙ ap (λ (ds : List Change). flat css ++ ds) (append-nil cs)) ∙ left-append f (flat css) cs

steps-pass : (all css : List (List Change)) (rows : List TableRow) (ss : List Step) → all ≡ css ++ selected_in ss
    → AreOf print_of rows (prints_left print_of (flat css)) → AreOf (λ r. table_print r.table) rows (prints_left (λ r. table_print r.table) (flat css))
    → touches_from all (length css) ss ≡ 0 → passes rows (marked_in ss) ≡ true
steps-pass all css rows [] is of named none = refl
steps-pass all css rows (Selected cs ∷ ss) is of named none =
    passes-selected cs rows (marked_in ss)
    ∙ steps-pass all (css ++ cs ∷ []) (with_rows cs rows) ss (is ∙ sym (append_assoc css (cs ∷ []) (selected_in ss)))
    (λ p e. ap (list_any (nat_eq p)) (flat-more print_of css cs) ∙ with-changes print_of cs rows (prints_left print_of (flat css)) of p e)
    (λ p e. ap (list_any (nat_eq p)) (flat-more (λ r. table_print r.table) css cs) ∙ with-changes (λ r. table_print r.table) cs rows (prints_left (λ r. table_print r.table) (flat css)) named p e)
    (ap (λ (k : ℕ). touches_from all k ss) (length-append css (cs ∷ [])) ∙ none)
steps-pass all css rows (Other cs ∷ ss) is of named none =
    let left = left_by (length css) all in
    let first : take (length css) all ≡ css = ap (take (length css)) is ∙ take_at css (selected_in ss) (length css) refl in
    let own : length (filter (takes_left left) cs) ≡ 0 = omega (arith, none) in
    let rest : touches_from all (length css) ss ≡ 0 = omega (arith, none) in
    let parts = ap (prints_left (λ r. table_print r.table)) (ap flat is ∙ flat_map-append (λ cs. cs) css (selected_in ss)) ∙ left-append (λ r. table_print r.table) (flat css) (flat (selected_in ss)) in
    others-pass cs rows left (marked_in ss)
    (λ p e. ap (λ (ds : List (List Change)). list_any (nat_eq p) (prints_left print_of (flat ds))) first ∙ of p e)
    (λ p e. ap (list_any (nat_eq p)) parts ∙ any-left p (prints_left (λ r. table_print r.table) (flat css)) (prints_left (λ r. table_print r.table) (flat (selected_in ss))) (named p e))
    own (steps-pass all css rows ss is of named rest)

pub prints-among-suffice : (ss : List Step) → touches_among ss ≡ 0 → is_untouched (marked_in ss) ≡ true
prints-among-suffice ss none = rows-decide (marked_in ss) ∙ steps-pass (selected_in ss) [] [] ss refl (λ p e. absurd (false≢true e)) (λ p e. absurd (false≢true e)) none
