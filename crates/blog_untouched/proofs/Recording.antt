-- The marks by what is recorded are those of the part by fingerprints.
use Rattle.std.proofs.Common.{◌≡◌, ℕ, ◌+◌, ◌≤◌, Bool, true, false, not, ◌&&◌, ◌||◌, List, [], ◌∷◌, ◌++◌, drop, length, map, Option, Some, None, refl, sym, ap, ap₂, subst, ◌∙◌, arith}
use Rattle.std.specs.Prelude.{if◌then◌else◌, nat_eq, nat_lt, option_map}
use Rattle.std.specs.List.{AllByRecursion, cons_option, list_all, list_any}
use Rattle.std.proofs.lemmas.Bool.{false≢true, cond-false, cond-true, eq-eqb, eqb-true, le-ltb, or_left, or_right}
use Rattle.blog_trans.specs.Changes.{Change, Inserted, Deleted, Updated}
use Rattle.blog_undo.specs.Mixed.{Marked, TableRow, leaves, selected_changes, takes}
use Rattle.blog_untouched.specs.ByPrints.{has_same_print, is_left_alone_by, part_by}
use Rattle.blog_untouched.specs.Recorded.{IsRecorded, marks_in, row_by, taken_row, taken_rows}
use Rattle.blog_untouched.specs.Rows.{print_left, print_taken}
use Rattle.blog_untouched.specs.code.MarksView.{AreInOrder, AreRising, is_print_among, marks_from, taken_after}
use Rattle.blog_untouched.specs.code.TakersView.{prints_left_out, prints_outside}
use Rattle.blog_untouched.specs.declared.rows.SelectedRow.{SelectedRow}
use Rattle.blog_untouched.specs.declared.rows.TakenRow.{TakenRow}
use Rattle.blog_untouched.proofs.Marks.{all-after}
use Rattle.blog_untouched.proofs.Taking.{any-middle}

-- ---- rows of changes

left-by : (f : TableRow → ℕ) (c : Change) → print_left (row_by f c) ≡ option_map f (leaves c)
left-by f (Inserted t r) = refl
left-by f (Deleted t r) = refl
left-by f (Updated t before after) = refl

taken-by : (f : TableRow → ℕ) (c : Change) → print_taken (row_by f c) ≡ option_map f (takes c)
taken-by f (Inserted t r) = refl
taken-by f (Deleted t r) = refl
taken-by f (Updated t before after) = refl

abbrev rows_of : (TableRow → ℕ) → List Marked → List SelectedRow
rows_of f ms = map (row_by f) (selected_changes ms)

rows-selected : (f : TableRow → ℕ) (m : Marked) (ms : List Marked) → m.selected ≡ true → rows_of f (m ∷ ms) ≡ row_by f m.change ∷ rows_of f ms
rows-selected f m ms e = rw e refl

rows-other : (f : TableRow → ℕ) (m : Marked) (ms : List Marked) → m.selected ≡ false → rows_of f (m ∷ ms) ≡ rows_of f ms
rows-other f m ms e = rw e refl

-- ---- the places of the taken rows don't fall

rising : (f : TableRow → ℕ) (k n : ℕ) (prints : List ℕ) (ms : List Marked) → k ≤ n → AreRising k (taken_rows f n prints ms)
rising f k n prints [] from = tt
rising f k n prints (m ∷ ms) from = by_case m.selected
    (rising f k (n + 1) (cons_option (option_map f (leaves m.change)) prints) ms (omega (arith, from)))
    (row (takes m.change) (rising f k n prints ms from) (rising f n n prints ms (omega arith)))
  where
    rest : List TakenRow
    rest = taken_rows f n prints ms

    row : (o : Option TableRow) → AreRising k rest → AreRising n rest → AreRising k (taken_row f n prints o ++ rest)
    row None all later = all
    row (Some r) all later = with_test (list_any (nat_eq (f r)) prints)
      where
        with_test : (b : Bool) → AreRising k ((if b then record { before = n; print = f r } ∷ [] else []) ++ rest)
        with_test true = (from, later)
        with_test false = all

    by_case : (b : Bool) → AreRising k (taken_rows f (n + 1) (cons_option (option_map f (leaves m.change)) prints) ms) → AreRising k (taken_row f n prints (takes m.change) ++ rest)
        → AreRising k (if b then taken_rows f (n + 1) (cons_option (option_map f (leaves m.change)) prints) ms else taken_row f n prints (takes m.change) ++ rest)
    by_case true selected other = selected
    by_case false selected other = other

-- and none is beyond the number of selected changes
placed : (f : TableRow → ℕ) (n : ℕ) (prints : List ℕ) (ms : List Marked) (bound : ℕ) → n + length (rows_of f ms) ≤ bound → AllByRecursion (λ t. t.before ≤ bound) (taken_rows f n prints ms)
placed f n prints [] bound fits = tt
placed f n prints (m ∷ ms) bound fits = by_case m.selected refl (placed f (n + 1) (cons_option (option_map f (leaves m.change)) prints) ms bound) (placed f n prints ms bound)
  where
    rest : List TakenRow
    rest = taken_rows f n prints ms

    row : (o : Option TableRow) → n ≤ bound → AllByRecursion (λ t. t.before ≤ bound) rest → AllByRecursion (λ t. t.before ≤ bound) (taken_row f n prints o ++ rest)
    row None low all = all
    row (Some r) low all = with_test (list_any (nat_eq (f r)) prints)
      where
        with_test : (b : Bool) → AllByRecursion (λ t. t.before ≤ bound) ((if b then record { before = n; print = f r } ∷ [] else []) ++ rest)
        with_test true = (low, all)
        with_test false = all

    by_case : (b : Bool) → m.selected ≡ b
        → ((n + 1) + length (rows_of f ms) ≤ bound → AllByRecursion (λ t. t.before ≤ bound) (taken_rows f (n + 1) (cons_option (option_map f (leaves m.change)) prints) ms))
        → (n + length (rows_of f ms) ≤ bound → AllByRecursion (λ t. t.before ≤ bound) rest) → AllByRecursion (λ t. t.before ≤ bound) (taken_rows f n prints (m ∷ ms))
    by_case true is more same =
        let long = ap length (rows-selected f m ms is) in
        subst (AllByRecursion (λ t. t.before ≤ bound))
        (sym (cond-true m.selected (taken_rows f (n + 1) (cons_option (option_map f (leaves m.change)) prints) ms) (taken_row f n prints (takes m.change) ++ rest) is)) (more (omega (arith, long, fits)))
    by_case false is more same =
        let long = ap length (rows-other f m ms is) in
        subst (AllByRecursion (λ t. t.before ≤ bound))
        (sym (cond-false m.selected (taken_rows f (n + 1) (cons_option (option_map f (leaves m.change)) prints) ms) (taken_row f n prints (takes m.change) ++ rest) is))
        (row (takes m.change) (omega (arith, fits)) (same (omega (arith, long, fits))))

rising-all : (k : ℕ) (ts : List TakenRow) → AreRising k ts → AllByRecursion (λ t. k ≤ t.before) ts
rising-all k [] all = tt
rising-all k (t ∷ ts) (from, rest) = (from, lower ts (rising-all t.before ts rest))
  where
    lower : (us : List TakenRow) → AllByRecursion (λ u. t.before ≤ u.before) us → AllByRecursion (λ u. k ≤ u.before) us
    lower [] all = tt
    lower (u ∷ us) (first, others) = (omega (arith, from, first), lower us others)

-- ---- a taken row before a selected change doesn't matter

marks-skip : (k : ℕ) (rows : List SelectedRow) (t : TakenRow) (ts : List TakenRow) → t.before ≤ k → marks_from k rows (t ∷ ts) ≡ marks_from k rows ts
marks-skip k [] t ts before = refl
marks-skip k (r ∷ rows) t ts before =
    ap₂ (λ (us : List TakenRow) (later : List Bool). not (is_print_among (print_left r) (prints_outside us rows later)) ∷ later)
    (cond-false (nat_lt k t.before) (t ∷ taken_after k ts) (taken_after k ts) (le-ltb k t.before before)) (marks-skip (k + 1) rows t ts (omega (arith, before)))

-- ---- what is outside of the part

eq-turned : (a b : ℕ) → nat_eq a b ≡ nat_eq b a
eq-turned a b = by_case (nat_eq a b) refl (nat_eq b a) refl
  where
    by_case : (x : Bool) → nat_eq a b ≡ x → (y : Bool) → nat_eq b a ≡ y → nat_eq a b ≡ nat_eq b a
    by_case true e y g = e ∙ sym (eq-eqb b a (sym (eqb-true a b e)))
    by_case false e false g = e ∙ sym g
    by_case false e true g = absurd (false≢true (sym e ∙ eq-eqb a b (sym (eqb-true b a g))))

not-or : (a b : Bool) → not (a || b) ≡ (not a && not b)
not-or true b = refl
not-or false b = refl

any-more : (p : ℕ) (o : Option ℕ) (prints : List ℕ) → list_any (nat_eq p) prints ≡ true → list_any (nat_eq p) (cons_option o prints) ≡ true
any-more p None prints e = e
any-more p (Some q) prints e = or_right (nat_eq p q) _ e

module _ (f : TableRow → ℕ) (s : TableRow) where
  -- no change outside of a part takes a row with the fingerprint of this one
  abbrev none_outside : List Marked → Bool
  none_outside part = list_all (λ m. m.selected || not (has_same_print f (takes m.change) (Some s))) part

  -- one more print that is outside
  more-outside : (D U : List ℕ) (o : Option TableRow) (rest : Bool) → not (list_any (nat_eq (f s)) (D ++ U)) ≡ rest
      → not (list_any (nat_eq (f s)) (D ++ cons_option (option_map f o) U)) ≡ (not (has_same_print f o (Some s)) && rest)
  more-outside D U None rest is = is
  more-outside D U (Some r) rest is =
      ap not (sym (any-middle (f s) (f r) D U)) ∙ not-or (nat_eq (f s) (f r)) (list_any (nat_eq (f s)) (D ++ U)) ∙ ap₂ (λ (a b : Bool). not a && b) (eq-turned (f s) (f r)) is

  -- a row that another change takes
  taken-outside : (n : ℕ) (prints : List ℕ) (D : List TakenRow) (U : List ℕ) (o : Option TableRow) (rest : Bool) → list_any (nat_eq (f s)) prints ≡ true → not (list_any (nat_eq (f s)) (map (λ t. t.print) D ++ U)) ≡ rest
      → not (list_any (nat_eq (f s)) (map (λ t. t.print) (taken_row f n prints o ++ D) ++ U)) ≡ (not (has_same_print f o (Some s)) && rest)
  taken-outside n prints D U None rest left is = is
  taken-outside n prints D U (Some r) rest left is = by_case (list_any (nat_eq (f r)) prints) refl (nat_eq (f r) (f s)) refl
    where
      by_case : (b : Bool) → list_any (nat_eq (f r)) prints ≡ b → (c : Bool) → nat_eq (f r) (f s) ≡ c
          → not (list_any (nat_eq (f s)) (map (λ t. t.print) ((if list_any (nat_eq (f r)) prints then record { before = n; print = f r } ∷ [] else []) ++ D) ++ U)) ≡ (not (nat_eq (f r) (f s)) && rest)
      by_case true e c g =
          ap (λ (ts : List TakenRow). not (list_any (nat_eq (f s)) (map (λ t. t.print) (ts ++ D) ++ U))) (cond-true (list_any (nat_eq (f r)) prints) (record { before = n; print = f r } ∷ []) [] e)
          ∙ not-or (nat_eq (f s) (f r)) (list_any (nat_eq (f s)) (map (λ t. t.print) D ++ U)) ∙ ap₂ (λ (a b : Bool). not a && b) (eq-turned (f s) (f r)) is
      by_case false e false g =
          ap (λ (ts : List TakenRow). not (list_any (nat_eq (f s)) (map (λ t. t.print) (ts ++ D) ++ U))) (cond-false (list_any (nat_eq (f r)) prints) (record { before = n; print = f r } ∷ []) [] e)
          ∙ is ∙ sym (ap (λ (a : Bool). not a && rest) g)
      by_case false e true g = absurd (false≢true (sym e ∙ ap (λ (q : ℕ). list_any (nat_eq q) prints) (eqb-true (f r) (f s) g) ∙ left))

  outside : (n : ℕ) (prints : List ℕ) (ms : List Marked) → list_any (nat_eq (f s)) prints ≡ true
      → not (list_any (nat_eq (f s)) (prints_outside (taken_rows f n prints ms) (rows_of f ms) (marks_in ms (part_by f ms)))) ≡ none_outside (part_by f ms)
  outside n prints [] left = refl
  outside n prints (m ∷ ms) left =
      by_case m.selected refl (outside (n + 1) (cons_option (option_map f (leaves m.change)) prints) ms (any-more (f s) (option_map f (leaves m.change)) prints left)) (outside n prints ms left)
    where
      alone : Bool
      alone = is_left_alone_by f m.change (part_by f ms)

      U : List ℕ
      U = prints_left_out (rows_of f ms) (marks_in ms (part_by f ms))

      rest : Bool
      rest = none_outside (part_by f ms)

      all : List TakenRow → List SelectedRow → List Bool → Bool
      all ts rows marks = not (list_any (nat_eq (f s)) (prints_outside ts rows marks))

      kept : (D : List ℕ) (b : Bool) → not (list_any (nat_eq (f s)) (D ++ U)) ≡ rest
          → not (list_any (nat_eq (f s)) (D ++ (if b then U else cons_option (print_taken (row_by f m.change)) U))) ≡ ((b || not (has_same_print f (takes m.change) (Some s))) && rest)
      kept D true is = is
      kept D false is = ap (λ (o : Option ℕ). not (list_any (nat_eq (f s)) (D ++ cons_option o U))) (taken-by f m.change) ∙ more-outside D U (takes m.change) rest is

      by_case : (b : Bool) → m.selected ≡ b
          → all (taken_rows f (n + 1) (cons_option (option_map f (leaves m.change)) prints) ms) (rows_of f ms) (marks_in ms (part_by f ms)) ≡ rest
          → all (taken_rows f n prints ms) (rows_of f ms) (marks_in ms (part_by f ms)) ≡ rest
          → all (taken_rows f n prints (m ∷ ms)) (rows_of f (m ∷ ms)) (marks_in (m ∷ ms) (part_by f (m ∷ ms))) ≡ none_outside (part_by f (m ∷ ms))
      by_case true is later same =
          let ts = taken_rows f (n + 1) (cons_option (option_map f (leaves m.change)) prints) ms in
          ap₂ (λ (us : List TakenRow) (rows : List SelectedRow). all us rows (marks_in (m ∷ ms) (part_by f (m ∷ ms)))) (cond-true m.selected ts (taken_row f n prints (takes m.change) ++ taken_rows f n prints ms) is) (rows-selected f m ms is)
          ∙ ap (all ts (row_by f m.change ∷ rows_of f ms)) (cond-true m.selected ((m.selected && alone) ∷ marks_in ms (part_by f ms)) (marks_in ms (part_by f ms)) is)
          ∙ kept (map (λ t. t.print) ts) (m.selected && alone) later
      by_case false is later same =
          let ts = taken_row f n prints (takes m.change) ++ taken_rows f n prints ms in
          ap₂ (λ (us : List TakenRow) (rows : List SelectedRow). all us rows (marks_in (m ∷ ms) (part_by f (m ∷ ms)))) (cond-false m.selected (taken_rows f (n + 1) (cons_option (option_map f (leaves m.change)) prints) ms) ts is) (rows-other f m ms is)
          ∙ ap (all ts (rows_of f ms)) (cond-false m.selected ((m.selected && alone) ∷ marks_in ms (part_by f ms)) (marks_in ms (part_by f ms)) is)
          ∙ taken-outside n prints (taken_rows f n prints ms) U (takes m.change) rest left same
          ∙ sym (ap (λ (b : Bool). ((b && alone) || not (has_same_print f (takes m.change) (Some s))) && rest) is)

-- ---- the marks

none-alone : (f : TableRow → ℕ) (part : List Marked) → list_all (λ m. m.selected || not (has_same_print f (takes m.change) None)) part ≡ true
none-alone f [] = refl
none-alone f (m ∷ part) = ap₂ ◌&&◌ (free m.selected (takes m.change)) (none-alone f part)
  where
    free : (b : Bool) (o : Option TableRow) → (b || not (has_same_print f o None)) ≡ true
    free true o = refl
    free false None = refl
    free false (Some r) = refl

-- the mark of a selected change
one-mark : (f : TableRow → ℕ) (n : ℕ) (prints : List ℕ) (l : Option TableRow) (ms : List Marked)
    → not (is_print_among (option_map f l) (prints_outside (taken_rows f n (cons_option (option_map f l) prints) ms) (rows_of f ms) (marks_in ms (part_by f ms))))
    ≡ list_all (λ m. m.selected || not (has_same_print f (takes m.change) l)) (part_by f ms)
one-mark f n prints None ms = sym (none-alone f (part_by f ms))
one-mark f n prints (Some s) ms = outside f s n (f s ∷ prints) ms (or_left (nat_eq (f s) (f s)) _ (eq-eqb (f s) (f s) refl))

marks-from : (f : TableRow → ℕ) (n : ℕ) (prints : List ℕ) (ms : List Marked) → marks_from n (rows_of f ms) (taken_rows f n prints ms) ≡ marks_in ms (part_by f ms)
marks-from f n prints [] = refl
marks-from f n prints (m ∷ ms) = by_case m.selected refl (marks-from f (n + 1) (cons_option (option_map f (leaves m.change)) prints) ms) (marks-from f n prints ms)
  where
    alone : Bool
    alone = is_left_alone_by f m.change (part_by f ms)

    more : List ℕ
    more = cons_option (option_map f (leaves m.change)) prints

    other : (o : Option TableRow) → marks_from n (rows_of f ms) (taken_row f n prints o ++ taken_rows f n prints ms) ≡ marks_from n (rows_of f ms) (taken_rows f n prints ms)
    other None = refl
    other (Some r) = with_test (list_any (nat_eq (f r)) prints)
      where
        with_test : (b : Bool) → marks_from n (rows_of f ms) ((if b then record { before = n; print = f r } ∷ [] else []) ++ taken_rows f n prints ms) ≡ marks_from n (rows_of f ms) (taken_rows f n prints ms)
        with_test true = marks-skip n (rows_of f ms) (record { before = n; print = f r }) (taken_rows f n prints ms) (omega arith)
        with_test false = refl

    by_case : (b : Bool) → m.selected ≡ b
        → marks_from (n + 1) (rows_of f ms) (taken_rows f (n + 1) more ms) ≡ marks_in ms (part_by f ms)
        → marks_from n (rows_of f ms) (taken_rows f n prints ms) ≡ marks_in ms (part_by f ms)
        → marks_from n (rows_of f (m ∷ ms)) (taken_rows f n prints (m ∷ ms)) ≡ marks_in (m ∷ ms) (part_by f (m ∷ ms))
    by_case true is later same =
        let ts = taken_rows f (n + 1) more ms in
        ap₂ (λ (rows : List SelectedRow) (us : List TakenRow). marks_from n rows us) (rows-selected f m ms is) (cond-true m.selected ts (taken_row f n prints (takes m.change) ++ taken_rows f n prints ms) is)
        ∙ ap₂ (λ (us : List TakenRow) (marks : List Bool). not (is_print_among (print_left (row_by f m.change)) (prints_outside us (rows_of f ms) marks)) ∷ marks)
        (all-after n ts (rising-all (n + 1) ts (rising f (n + 1) (n + 1) more ms (omega arith)))) later
        ∙ ap (λ (b : Bool). b ∷ marks_in ms (part_by f ms))
        (ap (λ (o : Option ℕ). not (is_print_among o (prints_outside ts (rows_of f ms) (marks_in ms (part_by f ms))))) (left-by f m.change) ∙ one-mark f (n + 1) prints (leaves m.change) ms
        ∙ sym (ap (λ (b : Bool). b && alone) is))
        ∙ sym (cond-true m.selected ((m.selected && alone) ∷ marks_in ms (part_by f ms)) (marks_in ms (part_by f ms)) is)
    by_case false is later same =
        ap₂ (λ (rows : List SelectedRow) (us : List TakenRow). marks_from n rows us) (rows-other f m ms is)
        (cond-false m.selected (taken_rows f (n + 1) more ms) (taken_row f n prints (takes m.change) ++ taken_rows f n prints ms) is)
        ∙ other (takes m.change) ∙ same ∙ sym (cond-false m.selected ((m.selected && alone) ∷ marks_in ms (part_by f ms)) (marks_in ms (part_by f ms)) is)

-- ---- what is recorded

-- once all changes were looked at
pub recorded-all : (f : TableRow → ℕ) (ms : List Marked) (rows : List SelectedRow) (taken : List TakenRow) (marks : List Bool) (row : ℕ) → IsRecorded f ms rows taken → row ≡ 0
    → (AreRising 0 taken → drop row marks ≡ marks_from row (drop row rows) taken) → marks ≡ marks_in ms (part_by f ms)
recorded-all f ms rows taken marks row is none marked =
    subst (λ (n : ℕ). drop n marks ≡ marks_from n (drop n rows) taken) none (marked (subst (AreRising 0) (sym is.others) (rising f 0 0 [] ms (omega arith))))
    ∙ ap₂ (marks_from 0) is.selected is.others ∙ marks-from f 0 [] ms

pub recorded-order : (f : TableRow → ℕ) (ms : List Marked) (rows : List SelectedRow) (taken : List TakenRow) → IsRecorded f ms rows taken → AreInOrder (length rows) taken
recorded-order f ms rows taken is =
    let long = ap length (sym is.selected) in (
      subst (AreRising 0) (sym is.others) (rising f 0 0 [] ms (omega arith)),
      subst (AllByRecursion (λ t. t.before ≤ length rows)) (sym is.others) (placed f 0 [] ms (length rows) (omega (arith, long))),
    )
