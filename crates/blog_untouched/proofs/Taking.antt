-- The changes that aren't kept, by the rows that they take, when one more is looked at.
use Rattle.std.proofs.Common.{◌≡◌, ℕ, zero, suc, ◌+◌, ◌<◌, ◌≤◌, Bool, true, false, ◌||◌, cond, List, [], ◌∷◌, ◌++◌, length, map, drop, set, Option, None, Some, refl, sym, ap, ap₂, subst, ◌∙◌, arith}
use Rattle.std.specs.Prelude.{is_some, nat_eq, slice_get}
use Rattle.std.specs.List.{AllByRecursion, cons_option, list_any}
use Rattle.std.proofs.lemmas.Bool.{false≢true, cond-false, cond-true, eqb-true, eq-eqb}
use Rattle.std.proofs.lemmas.List.{drop-set}
use Rattle.std.proofs.lemmas.Option.{same_Some, slice_get_within}
use Rattle.blog_trans.proofs.Turns.{drop-at}
use Rattle.indexmap.specs.IndexMap.{IndexMap, get}
use Rattle.blog_untouched.specs.Rows.{Takes, print_taken}
use Rattle.blog_untouched.specs.code.TakersView.{Adds, AreTakers, prints_left_out, prints_outside}
use Rattle.blog_untouched.specs.declared.rows.SelectedRow.{SelectedRow}
use Rattle.blog_untouched.specs.declared.rows.TakenRow.{TakenRow}
use Rattle.blog_untouched.specs.declared.rows.Taker.{Taker}
use Rattle.blog_untouched.specs.declared.rows.Taker.TheVariants.{Selected, Other}

-- ---- places

-- a write leaves the places after it
pub set-before : {A : Type 0} (xs : List A) (i n : ℕ) (x : A) → i < n → slice_get (set xs i x) n ≡ slice_get xs n
set-before [] i n x less = refl
set-before (y ∷ ys) zero zero x less = absurd (omega (arith, less))
set-before (y ∷ ys) zero (suc n) x less = refl
set-before (y ∷ ys) (suc i) zero x less = absurd (omega (arith, less))
set-before (y ∷ ys) (suc i) (suc n) x less = set-before ys i n x (omega (arith, less))

pub set-here : {A : Type 0} (xs : List A) (i : ℕ) (x : A) → i < length xs → slice_get (set xs i x) i ≡ Some x
set-here [] i x less = absurd (omega (arith, less))
set-here (y ∷ ys) zero x less = refl
set-here (y ∷ ys) (suc i) x less = set-here ys i x (omega (arith, less))

-- ---- one more taker

module _ {S : Type 0} (old new : IndexMap ℕ Taker S) (print : ℕ) (by_taker : Taker)
    (put : (q : ℕ) → get nat_eq new q ≡ cond (nat_eq print q) (Some by_taker) (get nat_eq old q)) where
  -- it is found
  put-found : (prints : List ℕ) → ((q : ℕ) → is_some (get nat_eq old q) ≡ list_any (nat_eq q) prints) → (q : ℕ) → is_some (get nat_eq new q) ≡ list_any (nat_eq q) (print ∷ prints)
  put-found prints found q = ap is_some (put q) ∙ by_case (nat_eq print q) refl
    where
      by_case : (b : Bool) → nat_eq print q ≡ b → is_some (cond (nat_eq print q) (Some by_taker) (get nat_eq old q)) ≡ (nat_eq q print || list_any (nat_eq q) prints)
      by_case true is =
          ap is_some (cond-true (nat_eq print q) (Some by_taker) (get nat_eq old q) is)
          ∙ sym (ap (λ b. b || list_any (nat_eq q) prints) (eq-eqb q print (sym (eqb-true print q is))))
      by_case false is =
          ap is_some (cond-false (nat_eq print q) (Some by_taker) (get nat_eq old q) is) ∙ found q
          ∙ sym (ap (λ b. b || list_any (nat_eq q) prints) (other (nat_eq q print) refl))
        where
          other : (b : Bool) → nat_eq q print ≡ b → nat_eq q print ≡ false
          other false differ = differ
          other true same = absurd (false≢true (sym is ∙ eq-eqb print q (sym (eqb-true q print same))))

  -- what holds of each taker holds of it, too
  put-all : (P : ℕ → Taker → Type 0) → P print by_taker → ((q : ℕ) (t : Taker) → get nat_eq old q ≡ Some t → P q t) → (q : ℕ) (t : Taker) → get nat_eq new q ≡ Some t → P q t
  put-all P this others q t is = by_case (nat_eq print q) refl
    where
      by_case : (b : Bool) → nat_eq print q ≡ b → P q t
      by_case true same =
          let it : by_taker ≡ t = same_Some by_taker t (sym (cond-true (nat_eq print q) (Some by_taker) (get nat_eq old q) same) ∙ sym (put q) ∙ is) in
          subst (λ (u : Taker). P q u) it (subst (λ (p : ℕ). P p by_taker) (eqb-true print q same) this)
      by_case false other = others q t (sym (cond-false (nat_eq print q) (Some by_taker) (get nat_eq old q) other) ∙ sym (put q) ∙ is)

-- ---- a taken row

pub takers-other : {S : Type 0} (rows : List SelectedRow) (taken : List TakenRow) (marks : List Bool) (after first : ℕ) (t : TakenRow) (old new : IndexMap ℕ Taker S)
    → AreTakers rows taken marks after (first + 1) old → slice_get taken first ≡ Some t → after ≤ t.before
    → ((q : ℕ) → get nat_eq new q ≡ cond (nat_eq t.print q) (Some (Other first)) (get nat_eq old q)) → AreTakers rows taken marks after first new
takers-other rows taken marks after first t old new are there from put =
    let at = drop-at taken first t there in
    let inside = slice_get_within taken first t there in
    record {
      within = omega (arith, inside);
      later = subst (AllByRecursion (λ u. after ≤ u.before)) (sym at) (from, are.later);
      found = λ q.
          put-found old new t.print (Other first) put (prints_outside (drop (first + 1) taken) (drop after rows) (drop after marks)) are.found q
          ∙ ap (λ ts. list_any (nat_eq q) (prints_outside ts (drop after rows) (drop after marks))) (sym at);
      take = put-all old new t.print (Other first) put (Takes rows taken marks after) (t, there, refl, from) are.take;
    }

-- ---- a selected change

-- what takes a row still takes it, once the mark of a change before is written
pub takes-still : (rows : List SelectedRow) (taken : List TakenRow) (marks : List Bool) (after least row print : ℕ) (b : Bool) (t : Taker) → least ≤ after → row < after
    → Takes rows taken marks after print t → Takes rows taken (set marks row b) least print t
takes-still rows taken marks after least row print b (Selected n) low less (r, there, is, mark, from) =
    (r, there, is, set-before marks row n b (omega (arith, less, from)) ∙ mark, omega (arith, low, from))
takes-still rows taken marks after least row print b (Other n) low less (t, there, is, from) = (t, there, is, omega (arith, low, from))

all-later : (n : ℕ) (ts : List TakenRow) → AllByRecursion (λ t. n + 1 ≤ t.before) ts → AllByRecursion (λ t. n ≤ t.before) ts
all-later n [] all = tt
all-later n (t ∷ ts) (first, rest) = (omega (arith, first), all-later n ts rest)

pub any-middle : (q p : ℕ) (xs ys : List ℕ) → list_any (nat_eq q) (p ∷ (xs ++ ys)) ≡ list_any (nat_eq q) (xs ++ p ∷ ys)
any-middle q p [] ys = refl
any-middle q p (x ∷ xs) ys = swapped (nat_eq q p) (nat_eq q x) (list_any (nat_eq q) (xs ++ ys)) ∙ ap (λ b. nat_eq q x || b) (any-middle q p xs ys)
  where
    swapped : (a b c : Bool) → (a || (b || c)) ≡ (b || (a || c))
    swapped true true c = refl
    swapped true false c = refl
    swapped false true c = refl
    swapped false false c = refl

-- those of the changes after one, with its own mark
outside-at : (rows : List SelectedRow) (taken : List TakenRow) (marks : List Bool) (row : ℕ) (r : SelectedRow) (b : Bool) → slice_get rows row ≡ Some r → row < length marks
    → prints_outside taken (drop row rows) (drop row (set marks row b)) ≡ prints_outside taken (r ∷ drop (row + 1) rows) (b ∷ drop (row + 1) marks)
outside-at rows taken marks row r b there inside = ap₂ (λ (rs : List SelectedRow) (ms : List Bool). prints_outside taken rs ms) (drop-at rows row r there) (drop-set marks row b inside)

-- it is kept
pub takers-kept : {S : Type 0} (rows : List SelectedRow) (taken : List TakenRow) (marks : List Bool) (row first : ℕ) (r : SelectedRow) (takers : IndexMap ℕ Taker S)
    → AreTakers rows taken marks (row + 1) first takers → slice_get rows row ≡ Some r → row < length marks → AreTakers rows taken (set marks row true) row first takers
takers-kept rows taken marks row first r takers are there inside = record {
  within = are.within;
  later = all-later row (drop first taken) are.later;
  found = λ q. are.found q ∙ ap (list_any (nat_eq q)) (sym (outside-at rows (drop first taken) marks row r true there inside));
  take = λ q t is. takes-still rows taken marks (row + 1) row row q true t (omega arith) (omega arith) (are.take q t is);
}

-- it isn't
pub takers-left-out : {S : Type 0} (rows : List SelectedRow) (taken : List TakenRow) (marks : List Bool) (row first : ℕ) (r : SelectedRow) (old new : IndexMap ℕ Taker S)
    → AreTakers rows taken marks (row + 1) first old → slice_get rows row ≡ Some r → row < length marks → Adds old (print_taken r) (Selected row) new
    → AreTakers rows taken (set marks row false) row first new
takers-left-out rows taken marks row first r old new are there inside adds = by_case (print_taken r) refl adds
  where
    prints : Option ℕ → List ℕ
    prints o = map (λ t. t.print) (drop first taken) ++ cons_option o (prints_left_out (drop (row + 1) rows) (drop (row + 1) marks))

    left : (o : Option ℕ) → print_taken r ≡ o → prints_outside (drop first taken) (drop row rows) (drop row (set marks row false)) ≡ prints o
    left o is = outside-at rows (drop first taken) marks row r false there inside ∙ ap prints is

    still : (q : ℕ) (t : Taker) → get nat_eq old q ≡ Some t → Takes rows taken (set marks row false) row q t
    still q t is = takes-still rows taken marks (row + 1) row row q false t (omega arith) (omega arith) (are.take q t is)

    by_case : (o : Option ℕ) → print_taken r ≡ o → Adds old o (Selected row) new → AreTakers rows taken (set marks row false) row first new
    by_case None is same = record {
      within = are.within;
      later = all-later row (drop first taken) are.later;
      found = λ q. ap (λ m. is_some (get nat_eq m q)) same ∙ are.found q ∙ ap (list_any (nat_eq q)) (sym (left None is));
      take = λ q t at. still q t (ap (λ m. get nat_eq m q) (sym same) ∙ at);
    }
    by_case (Some p) is put = record {
      within = are.within;
      later = all-later row (drop first taken) are.later;
      found = λ q.
          put-found old new p (Selected row) put (prints_outside (drop first taken) (drop (row + 1) rows) (drop (row + 1) marks)) are.found q
          ∙ any-middle q p (map (λ t. t.print) (drop first taken)) (prints_left_out (drop (row + 1) rows) (drop (row + 1) marks))
          ∙ ap (list_any (nat_eq q)) (sym (left (Some p) is));
      take = put-all old new p (Selected row) put (Takes rows taken (set marks row false) row) (r, there, is, set-here marks row false inside, omega arith) still;
    }
