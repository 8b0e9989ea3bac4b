-- What is recorded of steps is what is recorded of their changes.
use Rattle.std.proofs.Common.{◌≡◌, ℕ, ◌+◌, Bool, true, false, List, [], ◌∷◌, ◌++◌, length, map, take, Option, Some, None, refl, sym, ap, ap₂, ◌∙◌, arith, append-nil, append_assoc, length-append, take_at}
use Rattle.std.specs.Prelude.{◌||◌, if◌then◌else◌, nat_eq, option_map}
use Rattle.std.specs.List.{cons_option, flat_map, list_any}
use Rattle.std.proofs.lemmas.Bool.{cond-false, cond-true}
use Rattle.std.proofs.lemmas.List.{length-map}
use Rattle.std.proofs.lemmas.List.Concat.{flat_map-append}
use Rattle.std.proofs.lemmas.List.Folds.{list_any-append}
use Rattle.blog_trans.specs.Changes.{Change, changes}
use Rattle.blog_trans.specs.Selection.{Selection}
use Rattle.blog_undo.specs.Mixed.{Marked, TableRow, leaves, selected_changes, takes}
use Rattle.blog_later.specs.Among.{Step, Selected, Other, from_first, marked_in, selected_in}
use Rattle.blog_later.specs.Later.{unit_changes}
use Rattle.blog_later.specs.Prints.{HavePrints, prints_left, print_of}
use Rattle.blog_later.proofs.Counting.{left-append}
use Rattle.blog_untouched.specs.Recorded.{IsRecorded, row_by, taken_row, taken_rows}
use Rattle.blog_units.specs.Units.{Facts, range_of_unit}
use Rattle.blog_untouched.specs.Steps.{rows_in, rows_of, taken_in, taken_of, unit_step}
use Rattle.blog_untouched.specs.declared.rows.SelectedRow.{SelectedRow}
use Rattle.blog_untouched.specs.declared.rows.TakenRow.{TakenRow}
use Rattle.blog_untouched.proofs.PutRecorded.{none-of, taken-append}

abbrev flat : List (List Change) → List Change
flat css = flat_map (λ cs. cs) css

abbrev selected_all : List Change → List Marked
selected_all cs = map (λ c. record { change = c; selected = true }) cs

abbrev others_all : List Change → List Marked
others_all cs = map (λ c. record { change = c; selected = false }) cs

-- ---- selected changes

rows-selected : (cs : List Change) (ms : List Marked) → map (row_by print_of) (selected_changes (selected_all cs ++ ms)) ≡ rows_of cs ++ map (row_by print_of) (selected_changes ms)
rows-selected [] ms = refl
rows-selected (c ∷ cs) ms = ap (λ (rs : List SelectedRow). row_by print_of c ∷ rs) (rows-selected cs ms)

rows-others : (cs : List Change) (ms : List Marked) → map (row_by print_of) (selected_changes (others_all cs ++ ms)) ≡ map (row_by print_of) (selected_changes ms)
rows-others [] ms = refl
rows-others (c ∷ cs) ms = rows-others cs ms

rows-recorded : (ss : List Step) → rows_in ss ≡ map (row_by print_of) (selected_changes (marked_in ss))
rows-recorded [] = refl
rows-recorded (Selected cs ∷ ss) = ap (λ (rs : List SelectedRow). rows_of cs ++ rs) (rows-recorded ss) ∙ sym (rows-selected cs (marked_in ss))
rows-recorded (Other cs ∷ ss) = rows-recorded ss ∙ sym (rows-others cs (marked_in ss))

-- ---- the same fingerprints

same-row : (n : ℕ) (ps qs : List ℕ) → HavePrints qs ps → (o : Option TableRow) → taken_row print_of n ps o ≡ taken_row print_of n qs o
same-row n ps qs same None = refl
same-row n ps qs same (Some r) = ap (λ (b : Bool). if b then record { before = n; print = print_of r } ∷ [] else []) (same (print_of r))

pub same-rows : (n : ℕ) (ps qs : List ℕ) → HavePrints qs ps → (cs : List Change) → taken_of n ps cs ≡ taken_of n qs cs
same-rows n ps qs same [] = refl
same-rows n ps qs same (c ∷ cs) = ap₂ (λ (a b : List TakenRow). a ++ b) (same-row n ps qs same (takes c)) (same-rows n ps qs same cs)

-- ---- what others take

taken-others : (n : ℕ) (ps : List ℕ) (cs : List Change) (ms : List Marked) → taken_rows print_of n ps (others_all cs ++ ms) ≡ taken_of n ps cs ++ taken_rows print_of n ps ms
taken-others n ps [] ms = refl
taken-others n ps (c ∷ cs) ms =
    ap (λ (ts : List TakenRow). taken_row print_of n ps (takes c) ++ ts) (taken-others n ps cs ms)
    ∙ sym (append_assoc (taken_row print_of n ps (takes c)) (taken_of n ps cs) (taken_rows print_of n ps ms))

-- with the fingerprints of the rows that changes left
abbrev with_left : List Change → List ℕ → List ℕ
with_left [] ps = ps
with_left (c ∷ cs) ps = with_left cs (cons_option (option_map print_of (leaves c)) ps)

taken-selected : (n : ℕ) (ps : List ℕ) (cs : List Change) (ms : List Marked) → taken_rows print_of n ps (selected_all cs ++ ms) ≡ taken_rows print_of (n + length cs) (with_left cs ps) ms
taken-selected n ps [] ms = let same : n ≡ n + 0 = omega arith in ap (λ (m : ℕ). taken_rows print_of m ps ms) same
taken-selected n ps (c ∷ cs) ms =
    let next : (n + 1) + length cs ≡ n + length (c ∷ cs) = omega arith in
    taken-selected (n + 1) (cons_option (option_map print_of (leaves c)) ps) cs ms
    ∙ ap (λ (m : ℕ). taken_rows print_of m (with_left (c ∷ cs) ps) ms) next

-- ---- which fingerprints these are

one-with : (p : ℕ) (o : Option ℕ) (ps : List ℕ) (more : Bool) → (more || list_any (nat_eq p) (cons_option o ps)) ≡ (list_any (nat_eq p) (cons_option o []) || (more || list_any (nat_eq p) ps))
one-with p None ps more = refl
one-with p (Some q) ps more = swapped (nat_eq p q) more (list_any (nat_eq p) ps)
  where
    swapped : (a b c : Bool) → (b || (a || c)) ≡ ((a || false) || (b || c))
    swapped true true c = refl
    swapped true false c = refl
    swapped false true c = refl
    swapped false false c = refl

or-assoc : (a b c : Bool) → (a || (b || c)) ≡ ((a || b) || c)
or-assoc true b c = refl
or-assoc false b c = refl

head-left : (o : Option ℕ) (ps : List ℕ) → cons_option o ps ≡ cons_option o [] ++ ps
head-left None ps = refl
head-left (Some q) ps = refl

any-with : (p : ℕ) (cs : List Change) (ps : List ℕ) → list_any (nat_eq p) (with_left cs ps) ≡ (list_any (nat_eq p) (prints_left print_of cs) || list_any (nat_eq p) ps)
any-with p [] ps = refl
any-with p (c ∷ cs) ps =
    let o = option_map print_of (leaves c) in
    let first = list_any (nat_eq p) (cons_option o []) in
    let rest = list_any (nat_eq p) (prints_left print_of cs) in
    any-with p cs (cons_option o ps) ∙ one-with p o ps rest ∙ or-assoc first rest (list_any (nat_eq p) ps)
    ∙ ap (λ (b : Bool). b || list_any (nat_eq p) ps) (sym (list_any-append (nat_eq p) (cons_option o []) (prints_left print_of cs)) ∙ ap (list_any (nat_eq p)) (sym (head-left o (prints_left print_of cs))))

or-swapped : (a b : Bool) → (a || b) ≡ (b || a)
or-swapped true true = refl
or-swapped true false = refl
or-swapped false true = refl
or-swapped false false = refl

flat-more : (css : List (List Change)) (cs : List Change) → prints_left print_of (flat (css ++ cs ∷ [])) ≡ prints_left print_of (flat css) ++ prints_left print_of cs
flat-more css cs = ap (prints_left print_of) (flat_map-append (λ cs. cs) css (cs ∷ []) ∙ ap (λ (ds : List Change). flat css ++ ds) (append-nil cs)) ∙ left-append print_of (flat css) cs

with-more : (css : List (List Change)) (cs : List Change) (ps : List ℕ) → HavePrints (prints_left print_of (flat css)) ps → HavePrints (prints_left print_of (flat (css ++ cs ∷ []))) (with_left cs ps)
with-more css cs ps same p =
    let own = list_any (nat_eq p) (prints_left print_of cs) in
    any-with p cs ps ∙ ap (λ (b : Bool). own || b) (same p) ∙ or-swapped own (list_any (nat_eq p) (prints_left print_of (flat css)))
    ∙ sym (ap (list_any (nat_eq p)) (flat-more css cs) ∙ list_any-append (nat_eq p) (prints_left print_of (flat css)) (prints_left print_of cs))

-- ---- in steps

taken-recorded : (prints : ℕ → List ℕ) (all css : List (List Change)) (ss : List Step) (n : ℕ) (ps : List ℕ) → all ≡ css ++ selected_in ss
    → ((k : ℕ) → HavePrints (prints_left print_of (flat (take k all))) (prints k)) → HavePrints (prints_left print_of (flat css)) ps
    → taken_in prints (length css) n ss ≡ taken_rows print_of n ps (marked_in ss)
taken-recorded prints all css [] n ps is kept same = refl
taken-recorded prints all css (Selected cs ∷ ss) n ps is kept same =
    ap (λ (k : ℕ). taken_in prints k (n + length cs) ss) (sym (length-append css (cs ∷ [])))
    ∙ taken-recorded prints all (css ++ cs ∷ []) ss (n + length cs) (with_left cs ps) (is ∙ sym (append_assoc css (cs ∷ []) (selected_in ss))) kept (with-more css cs ps same)
    ∙ sym (taken-selected n ps cs (marked_in ss))
taken-recorded prints all css (Other cs ∷ ss) n ps is kept same =
    let first : take (length css) all ≡ css = ap (take (length css)) is ∙ take_at css (selected_in ss) (length css) refl in
    let alike : HavePrints ps (prints (length css)) = λ p. kept (length css) p ∙ ap (λ (ds : List (List Change)). list_any (nat_eq p) (prints_left print_of (flat ds))) first ∙ sym (same p) in
    ap₂ (λ (a b : List TakenRow). a ++ b) (same-rows n (prints (length css)) ps alike cs) (taken-recorded prints all css ss n ps is kept same)
    ∙ sym (taken-others n ps cs (marked_in ss))

pub steps-recorded : (prints : ℕ → List ℕ) (ss : List Step) → ((k : ℕ) → HavePrints (prints_left print_of (flat (take k (selected_in ss)))) (prints k))
    → IsRecorded print_of (marked_in ss) (rows_in ss) (taken_in prints 0 0 ss)
steps-recorded prints ss kept = record { selected = rows-recorded ss; others = taken-recorded prints (selected_in ss) [] ss 0 [] refl kept (λ p. refl) }

-- ---- units, of which some are chosen

abbrev steps : (Facts → Bool) → Selection → List ℕ → List Facts → List Step
steps p sel bytes us = map (unit_step p sel bytes) us

-- before the first chosen one nothing is recorded
pub first-rows : (p : Facts → Bool) (sel : Selection) (bytes : List ℕ) (us : List Facts) → rows_in (steps p sel bytes us) ≡ rows_in (steps p sel bytes (from_first p us))
first-rows p sel bytes [] = refl
first-rows p sel bytes (u ∷ us) = by_case (p u) refl (first-rows p sel bytes us)
  where
    by_case : (b : Bool) → p u ≡ b → rows_in (steps p sel bytes us) ≡ rows_in (steps p sel bytes (from_first p us)) → rows_in (steps p sel bytes (u ∷ us)) ≡ rows_in (steps p sel bytes (from_first p (u ∷ us)))
    by_case true e later = ap (λ (vs : List Facts). rows_in (steps p sel bytes vs)) (sym (cond-true (p u) (u ∷ us) (from_first p us) e))
    by_case false e later =
        ap (λ (s : Step). rows_in (s ∷ steps p sel bytes us)) (cond-false (p u) (Selected (changes bytes (range_of_unit sel u))) (Other (unit_changes bytes u)) e)
        ∙ later ∙ ap (λ (vs : List Facts). rows_in (steps p sel bytes vs)) (sym (cond-false (p u) (u ∷ us) (from_first p us) e))

pub first-taken : (prints : ℕ → List ℕ) → prints 0 ≡ [] → (p : Facts → Bool) (sel : Selection) (bytes : List ℕ) (n : ℕ) (us : List Facts)
    → taken_in prints 0 n (steps p sel bytes us) ≡ taken_in prints 0 n (steps p sel bytes (from_first p us))
first-taken prints none p sel bytes n [] = refl
first-taken prints none p sel bytes n (u ∷ us) = by_case (p u) refl (first-taken prints none p sel bytes n us)
  where
    by_case : (b : Bool) → p u ≡ b → taken_in prints 0 n (steps p sel bytes us) ≡ taken_in prints 0 n (steps p sel bytes (from_first p us))
        → taken_in prints 0 n (steps p sel bytes (u ∷ us)) ≡ taken_in prints 0 n (steps p sel bytes (from_first p (u ∷ us)))
    by_case true e later = ap (λ (vs : List Facts). taken_in prints 0 n (steps p sel bytes vs)) (sym (cond-true (p u) (u ∷ us) (from_first p us) e))
    by_case false e later =
        ap (λ (s : Step). taken_in prints 0 n (s ∷ steps p sel bytes us)) (cond-false (p u) (Selected (changes bytes (range_of_unit sel u))) (Other (unit_changes bytes u)) e)
        ∙ ap (λ (ts : List TakenRow). ts ++ taken_in prints 0 n (steps p sel bytes us)) (ap (λ (ps : List ℕ). taken_of n ps (unit_changes bytes u)) none ∙ none-of n (unit_changes bytes u))
        ∙ later ∙ ap (λ (vs : List Facts). taken_in prints 0 n (steps p sel bytes vs)) (sym (cond-false (p u) (u ∷ us) (from_first p us) e))

-- what later steps take, of which none is selected
abbrev others : List (List Change) → List Step
others css = map (λ cs. Other cs) css

pub others-taken : (prints : ℕ → List ℕ) (k n : ℕ) (ss : List Step) (css : List (List Change))
    → taken_in prints k n (ss ++ others css) ≡ taken_in prints k n ss ++ taken_of (n + length (rows_in ss)) (prints (k + length (selected_in ss))) (flat css)
others-taken prints k n [] css =
    let same : n ≡ n + 0 = omega arith in
    let list : k ≡ k + 0 = omega arith in
    alone css ∙ ap₂ (λ (m l : ℕ). taken_of m (prints l) (flat css)) same list
  where
    alone : (ds : List (List Change)) → taken_in prints k n (others ds) ≡ taken_of n (prints k) (flat ds)
    alone [] = refl
    alone (cs ∷ ds) = ap (λ (ts : List TakenRow). taken_of n (prints k) cs ++ ts) (alone ds) ∙ sym (taken-append n (prints k) cs (flat ds))
others-taken prints k n (Selected cs ∷ ss) css =
    let long : length (rows_of cs ++ rows_in ss) ≡ length cs + length (rows_in ss) = length-append (rows_of cs) (rows_in ss) ∙ ap (λ (m : ℕ). m + length (rows_in ss)) (length-map cs (row_by print_of)) in
    let more : (n + length cs) + length (rows_in ss) ≡ n + length (rows_of cs ++ rows_in ss) = omega (arith, long) in
    let next : (k + 1) + length (selected_in ss) ≡ k + length (cs ∷ selected_in ss) = omega arith in
    others-taken prints (k + 1) (n + length cs) ss css
    ∙ ap₂ (λ (m l : ℕ). taken_in prints (k + 1) (n + length cs) ss ++ taken_of m (prints l) (flat css)) more next
others-taken prints k n (Other cs ∷ ss) css =
    ap (λ (ts : List TakenRow). taken_of n (prints k) cs ++ ts) (others-taken prints k n ss css)
    ∙ sym (append_assoc (taken_of n (prints k) cs) (taken_in prints k n ss) (taken_of (n + length (rows_in ss)) (prints (k + length (selected_in ss))) (flat css)))

pub others-rows : (ss : List Step) (css : List (List Change)) → rows_in (ss ++ others css) ≡ rows_in ss
others-rows [] [] = refl
others-rows [] (cs ∷ css) = others-rows [] css
others-rows (Selected cs ∷ ss) css = ap (λ (rs : List SelectedRow). rows_of cs ++ rs) (others-rows ss css)
others-rows (Other cs ∷ ss) css = others-rows ss css
