-- The marks, when one more is written, and the changes that aren't kept.
use Rattle.std.proofs.Common.{◌≡◌, ℕ, zero, suc, ◌+◌, ◌<◌, ◌≤◌, Bool, true, false, not, List, [], ◌∷◌, ◌++◌, length, map, drop, set, get_or, Option, None, Some, refl, sym, ap, ap₂, subst, ◌∙◌, arith, append-nil}
use Rattle.std.specs.Prelude.{is_none, is_some, nat_eq, nat_lt, option_and_then, slice_get}
use Rattle.std.specs.List.{AllByRecursion, list_any}
use Rattle.std.proofs.lemmas.Bool.{cond-false, cond-true, le-ltb, lt-ltb}
use Rattle.std.proofs.lemmas.List.{drop-set, drop_all, length-set, map-append}
use Rattle.std.proofs.lemmas.Option.{none-some, same_Some, slice_get-get_or}
use Rattle.std.specs.Map.{lookup}
use Rattle.blog_trans.proofs.Turns.{drop-at}
use Rattle.indexmap.specs.IndexMap.{IndexMap, get}
use Rattle.blog_untouched.specs.Rows.{IsTouched, left_out, print_left, print_taken}
use Rattle.blog_untouched.specs.code.MarksView.{AreRising, is_print_among, marks_from, taken_after}
use Rattle.blog_untouched.specs.code.TakersView.{Adds, AreTakers, EndsAt, prints_outside}
use Rattle.blog_untouched.specs.declared.rows.SelectedRow.{SelectedRow}
use Rattle.blog_untouched.specs.declared.rows.TakenRow.{TakenRow}
use Rattle.blog_untouched.specs.declared.rows.Taker.{Taker}
use Rattle.blog_untouched.specs.declared.rows.Taker.TheVariants.{Selected}
use Rattle.blog_untouched.specs.declared.rows.Touched.{Touched}
use Rattle.blog_untouched.proofs.Taking.{takers-kept, takers-left-out, takes-still}

-- ---- the taken rows after a place are the last ones

pub rising-least : (n : ℕ) (ts : List TakenRow) (i : ℕ) (t : TakenRow) → AreRising n ts → slice_get ts i ≡ Some t → n ≤ t.before
rising-least n [] i t rising there = cc
rising-least n (u ∷ ts) zero t (from, rest) there = let same : u.before ≡ t.before = ap (λ v. v.before) (same_Some u t there) in omega (arith, from, same)
rising-least n (u ∷ ts) (suc i) t (from, rest) there = let more = rising-least u.before ts i t rest there in omega (arith, from, more)

pub all-after : (row : ℕ) (ts : List TakenRow) → AllByRecursion (λ t. row + 1 ≤ t.before) ts → taken_after row ts ≡ ts
all-after row [] all = refl
all-after row (t ∷ ts) (first, rest) =
    cond-true (nat_lt row t.before) (t ∷ taken_after row ts) (taken_after row ts) (lt-ltb row t.before (omega (arith, first))) ∙ ap (λ us. t ∷ us) (all-after row ts rest)

last-after : (n row first : ℕ) (ts : List TakenRow) → AreRising n ts → first ≤ length ts → AllByRecursion (λ t. row + 1 ≤ t.before) (drop first ts) → EndsAt ts row first → taken_after row ts ≡ drop first ts
last-after n row zero ts rising within all ends = all-after row ts all
last-after n row (suc first) [] rising within all ends = absurd (omega (arith, within))
last-after n row (suc first) (t ∷ ts) (from, rising) within all ends =
    cond-false (nat_lt row t.before) (t ∷ taken_after row ts) (taken_after row ts) (le-ltb row t.before (before first within ends))
    ∙ last-after t.before row first ts rising (omega (arith, within)) all (λ i u next there. ends (suc i) u (omega (arith, next)) there)
  where
    before : (k : ℕ) → suc k ≤ length (t ∷ ts) → EndsAt (t ∷ ts) row (suc k) → t.before ≤ row
    before zero inside at = at 0 t (omega arith) refl
    before (suc k) inside at =
        let u = get_or ts k t in
        let there : slice_get ts k ≡ Some u = slice_get-get_or ts k t (omega (arith, inside)) in
        let low = at (suc k) u (omega arith) there in
        let high = rising-least t.before ts k u rising there in
        omega (arith, low, high)

-- ---- one more mark

-- none is found that takes the row which a change left
pub found-none : {S : Type 0} (rows : List SelectedRow) (taken : List TakenRow) (marks : List Bool) (after first : ℕ) (takers : IndexMap ℕ Taker S) (left : Option ℕ) → AreTakers rows taken marks after first takers
    → is_none (option_and_then (get nat_eq takers) left) ≡ not (is_print_among left (prints_outside (drop first taken) (drop after rows) (drop after marks)))
found-none rows taken marks after first takers None are = refl
found-none rows taken marks after first takers (Some print) are = none (get nat_eq takers print) ∙ ap not (are.found print)
  where
    none : (o : Option Taker) → is_none o ≡ not (is_some o)
    none None = refl
    none (Some t) = refl

pub marks-more : {S : Type 0} (rows : List SelectedRow) (taken : List TakenRow) (marks : List Bool) (row first : ℕ) (r : SelectedRow) (takers : IndexMap ℕ Taker S) (b : Bool)
    → AreRising 0 taken → AreTakers rows taken marks (row + 1) first takers → EndsAt taken row first → slice_get rows row ≡ Some r → row < length marks
    → b ≡ is_none (option_and_then (get nat_eq takers) (print_left r))
    → drop (row + 1) marks ≡ marks_from (row + 1) (drop (row + 1) rows) taken → drop row (set marks row b) ≡ marks_from row (drop row rows) taken
marks-more rows taken marks row first r takers b rising are ends there inside is later =
    let rest = drop (row + 1) rows in
    let last = last-after 0 row first taken rising are.within are.later ends in
    drop-set marks row b inside
    ∙ ap (λ (c : Bool). c ∷ drop (row + 1) marks) (is ∙ found-none rows taken marks (row + 1) first takers (print_left r) are)
    ∙ ap₂ (λ (ts : List TakenRow) (ms : List Bool). not (is_print_among (print_left r) (prints_outside ts rest ms)) ∷ ms) (sym last) later
    ∙ ap (λ (rs : List SelectedRow). marks_from row rs taken) (sym (drop-at rows row r there))

-- ---- those that aren't kept

pub left-out-kept : (rows : List ℕ) (marks : List Bool) (row : ℕ) → row < length marks → rows ≡ left_out (row + 1) (drop (row + 1) marks) → rows ≡ left_out row (drop row (set marks row true))
left-out-kept rows marks row inside are = are ∙ sym (append-nil (left_out (row + 1) (drop (row + 1) marks))) ∙ ap (left_out row) (sym (drop-set marks row true inside))

pub left-out-more : (rows : List ℕ) (marks : List Bool) (row : ℕ) → row < length marks → rows ≡ left_out (row + 1) (drop (row + 1) marks)
    → rows ++ row ∷ [] ≡ left_out row (drop row (set marks row false))
left-out-more rows marks row inside are = ap (λ (ns : List ℕ). ns ++ row ∷ []) are ∙ ap (left_out row) (sym (drop-set marks row false inside))

-- ---- why they aren't

-- each comes at a place or after it, and is touched
abbrev pub AreTouched : List SelectedRow → List TakenRow → List Bool → ℕ → List Touched → Type 0
AreTouched rows taken marks row touched = AllByRecursion (λ t. (row ≤ t.row) × IsTouched rows taken marks t) touched

pub touched-still : (rows : List SelectedRow) (taken : List TakenRow) (marks : List Bool) (row : ℕ) (b : Bool) (touched : List Touched) → AreTouched rows taken marks (row + 1) touched → AreTouched rows taken (set marks row b) row touched
touched-still rows taken marks row b [] all = tt
touched-still rows taken marks row b (t ∷ touched) ((from, is), rest) = (
  (
    omega (arith, from),
    record {
      row = is.row;
      there = is.there;
      print = is.print;
      left = is.left;
      by_taker = takes-still rows taken marks (t.row + 1) (t.row + 1) row is.print b t.by (omega arith) (omega (arith, from)) is.by_taker;
    },
  ),
  touched-still rows taken marks row b touched rest,
)

touched-push : (rows : List SelectedRow) (taken : List TakenRow) (marks : List Bool) (row : ℕ) (touched : List Touched) (t : Touched) → AreTouched rows taken marks row touched → row ≤ t.row → IsTouched rows taken marks t
    → AreTouched rows taken marks row (touched ++ t ∷ [])
touched-push rows taken marks row [] t all from is = ((from, is), tt)
touched-push rows taken marks row (u ∷ touched) t (first, rest) from is = (first, touched-push rows taken marks row touched t rest from is)

-- a change after this one takes the row that it left
is-touched : {S : Type 0} (rows : List SelectedRow) (taken : List TakenRow) (marks : List Bool) (row first : ℕ) (r : SelectedRow) (takers : IndexMap ℕ Taker S) (t : Touched) (b : Bool)
    → AreTakers rows taken marks (row + 1) first takers → slice_get rows row ≡ Some r → t.row ≡ row → option_and_then (get nat_eq takers) (print_left r) ≡ Some t.by → IsTouched rows taken (set marks row b) t
is-touched rows taken marks row first r takers t b are there same found = by_case (print_left r) refl found
  where
    by_case : (o : Option ℕ) → print_left r ≡ o → option_and_then (get nat_eq takers) o ≡ Some t.by → IsTouched rows taken (set marks row b) t
    by_case None is none = cc
    by_case (Some print) is at = record {
      row = r;
      there = ap (slice_get rows) same ∙ there;
      print = print;
      left = is;
      by_taker = takes-still rows taken marks (row + 1) (t.row + 1) row print b t.by (omega (arith, same)) (omega arith) (are.take print t.by at);
    }

pub touched-more : {S : Type 0} (rows : List SelectedRow) (taken : List TakenRow) (marks : List Bool) (row first : ℕ) (r : SelectedRow) (takers : IndexMap ℕ Taker S) (touched : List Touched) (t : Touched)
    → AreTakers rows taken marks (row + 1) first takers → slice_get rows row ≡ Some r → t.row ≡ row → option_and_then (get nat_eq takers) (print_left r) ≡ Some t.by
    → AreTouched rows taken marks (row + 1) touched → AreTouched rows taken (set marks row false) row (touched ++ t ∷ [])
touched-more rows taken marks row first r takers touched t are there same found all =
    touched-push rows taken (set marks row false) row touched t (touched-still rows taken marks row false touched all) (omega (arith, same)) (is-touched rows taken marks row first r takers t false are there same found)

-- all that were looked at
pub touched-all : (rows : List SelectedRow) (taken : List TakenRow) (marks : List Bool) (row : ℕ) (touched : List Touched) → AreTouched rows taken marks row touched → AllByRecursion (IsTouched rows taken marks) touched
touched-all rows taken marks row [] all = tt
touched-all rows taken marks row (t ∷ touched) ((from, is), rest) = (is, touched-all rows taken marks row touched rest)

-- ---- so far

-- the changes from this one on were looked at
pub record IsReached {S : Type 0} (rows : List SelectedRow) (taken : List TakenRow) (marks : List Bool) (row first : ℕ) (takers : IndexMap ℕ Taker S) (touched : List Touched) : Type 0 where
  pub within : row ≤ length rows
  pub lengths : length marks ≡ length rows
  pub takers_are : AreTakers rows taken marks row first takers
  pub marked : AreRising 0 taken → drop row marks ≡ marks_from row (drop row rows) taken
  pub out : map (λ t. t.row) touched ≡ left_out row (drop row marks)
  pub why : AreTouched rows taken marks row touched

-- none yet
pub reached-none : {S : Type 0} (rows : List SelectedRow) (taken : List TakenRow) (marks : List Bool) (takers : IndexMap ℕ Taker S) (touched : List Touched) → length marks ≡ length rows → takers.entries ≡ [] → touched ≡ []
    → IsReached rows taken marks (length rows) (length taken) takers touched
reached-none rows taken marks takers touched long none empty =
    let no_rows : drop (length rows) rows ≡ [] = drop_all (length rows) rows (omega arith) in
    let no_marks : drop (length rows) marks ≡ [] = drop_all (length rows) marks (omega (arith, long)) in
    let no_taken : drop (length taken) taken ≡ [] = drop_all (length taken) taken (omega arith) in
    let nothing : (q : ℕ) → get nat_eq takers q ≡ None = λ q. ap (lookup (nat_eq q)) none in
    record {
      within = omega arith;
      lengths = long;
      takers_are = record {
        within = omega arith;
        later = subst (AllByRecursion (λ t. length rows ≤ t.before)) (sym no_taken) tt;
        found = λ q. ap is_some (nothing q)
            ∙ sym (ap (λ (ts : List TakenRow). list_any (nat_eq q) (prints_outside ts (drop (length rows) rows) (drop (length rows) marks))) no_taken ∙ ap (λ (rs : List SelectedRow). list_any (nat_eq q) (prints_outside [] rs (drop (length rows) marks))) no_rows);
        take = λ q t is. absurd (none-some t (sym (nothing q) ∙ is));
      };
      marked = λ rising. no_marks ∙ sym (ap (λ (rs : List SelectedRow). marks_from (length rows) rs taken) no_rows);
      out = ap (map (λ t. t.row)) empty ∙ sym (ap (left_out (length rows)) no_marks);
      why = subst (AreTouched rows taken marks (length rows)) (sym empty) tt;
    }

-- what is found of the row that a change left
pub looked-up : {S : Type 0} (takers : IndexMap ℕ Taker S) (o : Option Taker) (left : Option ℕ) (r : SelectedRow) → o ≡ option_and_then (get nat_eq takers) left → left ≡ print_left r
    → o ≡ option_and_then (get nat_eq takers) (print_left r)
looked-up takers o left r found is = found ∙ ap (option_and_then (get nat_eq takers)) is

-- the mark, by what was found
pub mark-of : (o : Option Taker) (b : Bool) → is_some o ≡ not b → b ≡ is_none o
mark-of None true is = refl
mark-of None false is = is
mark-of (Some t) true is = is
mark-of (Some t) false is = refl

module _ {S : Type 0} (rows : List SelectedRow) (taken : List TakenRow) (marks : List Bool) (had row first : ℕ) (r : SelectedRow) (takers : IndexMap ℕ Taker S) (touched : List Touched)
    (b : Bool) (by_taker : Option Taker) where
  -- one more is kept
  pub reached-kept : (first0 : ℕ) (takers0 : IndexMap ℕ Taker S) → IsReached rows taken marks had first0 takers0 touched → had ≡ row + 1
      → (AreTakers rows taken marks (row + 1) first0 takers0 → AreTakers rows taken marks (row + 1) first takers) → EndsAt taken row first → slice_get rows row ≡ Some r
      → by_taker ≡ option_and_then (get nat_eq takers) (print_left r) → is_some by_taker ≡ not b → by_taker ≡ None → IsReached rows taken (set marks row b) row first takers touched
  reached-kept first0 takers0 s one others ends there look test none =
      let mark = mark-of by_taker b test in
      let within = s.within in
      let long = s.lengths in
      let inside : row < length marks = omega (arith, within, long, one) in
      let are = others (subst (λ (n : ℕ). AreTakers rows taken marks n first0 takers0) one s.takers_are) in
      let kept : b ≡ true = mark ∙ ap is_none none in
      record {
        within = omega (arith, within, one);
        lengths = length-set marks row b ∙ long;
        takers_are = subst (λ (c : Bool). AreTakers rows taken (set marks row c) row first takers) (sym kept) (takers-kept rows taken marks row first r takers are there inside);
        marked = λ rising. marks-more rows taken marks row first r takers b rising are ends there inside (mark ∙ ap is_none look)
            (subst (λ (n : ℕ). drop n marks ≡ marks_from n (drop n rows) taken) one (s.marked rising));
        out = left-out-kept (map (λ t. t.row) touched) marks row inside (subst (λ (n : ℕ). map (λ t. t.row) touched ≡ left_out n (drop n marks)) one s.out)
            ∙ ap (λ (c : Bool). left_out row (drop row (set marks row c))) (sym kept);
        why = touched-still rows taken marks row b touched (subst (λ (n : ℕ). AreTouched rows taken marks n touched) one s.why);
      }

  -- one more isn't
  pub reached-left-out : (first0 : ℕ) (takers0 new : IndexMap ℕ Taker S) (t : Taker) (more : List Touched) → IsReached rows taken marks had first0 takers0 touched → had ≡ row + 1
      → (AreTakers rows taken marks (row + 1) first0 takers0 → AreTakers rows taken marks (row + 1) first takers) → EndsAt taken row first → slice_get rows row ≡ Some r
      → by_taker ≡ option_and_then (get nat_eq takers) (print_left r) → is_some by_taker ≡ not b → by_taker ≡ Some t → more ≡ touched ++ record { row = row; by = t } ∷ []
      → Adds takers (print_taken r) (Selected row) new → IsReached rows taken (set marks row b) row first new more
  reached-left-out first0 takers0 new t more s one others ends there look test some put adds =
      let mark = mark-of by_taker b test in
      let within = s.within in
      let long = s.lengths in
      let inside : row < length marks = omega (arith, within, long, one) in
      let are = others (subst (λ (n : ℕ). AreTakers rows taken marks n first0 takers0) one s.takers_are) in
      let gone : b ≡ false = mark ∙ ap is_none some in
      let this : Touched = record { row = row; by = t } in
      record {
        within = omega (arith, within, one);
        lengths = length-set marks row b ∙ long;
        takers_are = subst (λ (c : Bool). AreTakers rows taken (set marks row c) row first new) (sym gone) (takers-left-out rows taken marks row first r takers new are there inside adds);
        marked = λ rising. marks-more rows taken marks row first r takers b rising are ends there inside (mark ∙ ap is_none look)
            (subst (λ (n : ℕ). drop n marks ≡ marks_from n (drop n rows) taken) one (s.marked rising));
        out = ap (map (λ u. u.row)) put ∙ map-append (λ u. u.row) touched (this ∷ [])
            ∙ left-out-more (map (λ u. u.row) touched) marks row inside (subst (λ (n : ℕ). map (λ u. u.row) touched ≡ left_out n (drop n marks)) one s.out)
            ∙ ap (λ (c : Bool). left_out row (drop row (set marks row c))) (sym gone);
        why = subst (λ (c : Bool). AreTouched rows taken (set marks row c) row more) (sym gone) (subst (AreTouched rows taken (set marks row false) row) (sym put)
            (touched-more rows taken marks row first r takers touched this are there refl (sym look ∙ some) (subst (λ (n : ℕ). AreTouched rows taken marks n touched) one s.why)));
      }
