-- The changes that aren't kept: of those that take a row, the first is found.
use Rattle.std.proofs.Common.{◌≡◌, ℕ, zero, suc, ◌+◌, ◌<◌, ◌≤◌, Bool, true, false, not, cond, List, [], ◌∷◌, ◌++◌, length, drop, set, get_or, Option, None, Some, refl, sym, ap, subst, ◌∙◌, arith}
use Rattle.std.specs.Prelude.{is_none, is_some, nat_eq, option_and_then, slice_get}
use Rattle.std.specs.List.{AllByRecursion}
use Rattle.std.proofs.lemmas.Bool.{false≢true, true≢false, cases_lt, cond-false, cond-true, eq-eqb, eqb-true}
use Rattle.std.proofs.lemmas.Option.{none-some, same_Some, slice_get-get_or}
use Rattle.std.specs.Map.{lookup}
use Rattle.indexmap.specs.IndexMap.{IndexMap, get}
use Rattle.blog_untouched.specs.Rows.{IsNext, IsNoLater, Takes, print_left, print_taken}
use Rattle.blog_untouched.specs.code.MarksView.{AreRising}
use Rattle.blog_untouched.specs.code.TakersView.{Adds, AreFirst, AreTakers, EndsAt, IsIn}
use Rattle.blog_untouched.specs.declared.rows.SelectedRow.{SelectedRow}
use Rattle.blog_untouched.specs.declared.rows.TakenRow.{TakenRow}
use Rattle.blog_untouched.specs.declared.rows.Taker.{Taker}
use Rattle.blog_untouched.specs.declared.rows.Taker.TheVariants.{Selected, Other}
use Rattle.blog_untouched.specs.declared.rows.Touched.{Touched}
use Rattle.blog_untouched.proofs.Marks.{IsReached, mark-of, rising-least}
use Rattle.blog_untouched.proofs.Taking.{set-before, set-here}
use mathlib.Core.Logic.{⊎_elim}

-- ---- places

all-at : (P : TakenRow → Type 0) (ts : List TakenRow) (k : ℕ) (t : TakenRow) → AllByRecursion P ts → slice_get ts k ≡ Some t → P t
all-at P [] k t all there = absurd (none-some t there)
all-at P (u ∷ ts) zero t (first, rest) there = subst P (same_Some u t there) first
all-at P (u ∷ ts) (suc k) t (first, rest) there = all-at P ts k t rest there

all-from : (P : TakenRow → Type 0) (ts : List TakenRow) (first k : ℕ) (t : TakenRow) → AllByRecursion P (drop first ts) → first ≤ k → slice_get ts k ≡ Some t → P t
all-from P ts zero k t all low there = all-at P ts k t all there
all-from P [] (suc first) k t all low there = absurd (none-some t there)
all-from P (u ∷ ts) (suc first) zero t all low there = absurd (omega (arith, low))
all-from P (u ∷ ts) (suc first) (suc k) t all low there = all-from P ts first k t all (omega (arith, low)) there

-- places don't fall
rising-between : (n : ℕ) (ts : List TakenRow) (i k : ℕ) (t u : TakenRow) → AreRising n ts → i ≤ k → slice_get ts i ≡ Some t → slice_get ts k ≡ Some u → t.before ≤ u.before
rising-between n [] i k t u rising low here there = absurd (none-some t here)
rising-between n (v ∷ ts) zero zero t u rising low here there = let same : t.before ≡ u.before = ap (λ w. w.before) (same_Some t u (sym here ∙ there)) in omega (arith, same)
rising-between n (v ∷ ts) zero (suc k) t u (from, rest) low here there =
    let same : v.before ≡ t.before = ap (λ w. w.before) (same_Some v t here) in
    let more = rising-least v.before ts k u rest there in
    omega (arith, same, more)
rising-between n (v ∷ ts) (suc i) zero t u rising low here there = absurd (omega (arith, low))
rising-between n (v ∷ ts) (suc i) (suc k) t u (from, rest) low here there = rising-between v.before ts i k t u rest (omega (arith, low)) here there

-- those before the place that was reached are taken no later
below : (taken : List TakenRow) (row first : ℕ) → AreRising 0 taken → first ≤ length taken → EndsAt taken row first → (k : ℕ) (t : TakenRow) → k < first → slice_get taken k ≡ Some t → t.before ≤ row
below taken row zero rising within ends k t less there = absurd (omega (arith, less))
below taken row (suc first) rising within ends k t less there =
    let u = get_or taken first t in
    let last : slice_get taken first ≡ Some u = slice_get-get_or taken first t (omega (arith, within)) in
    let low = ends first u (omega arith) last in
    let high = rising-between 0 taken k first t u rising (omega (arith, less)) there last in
    omega (arith, low, high)

beyond : (n k : ℕ) → n ≤ k → (n ≡ k → ⊥) → n + 1 ≤ k
beyond n k low other = ⊎_elim (λ less. omega (arith, less)) (λ more. absurd (other (omega (arith, low, more)))) (cases_lt n k)

-- ---- none yet

pub first-none : {S : Type 0} (rows : List SelectedRow) (taken : List TakenRow) (marks : List Bool) (takers : IndexMap ℕ Taker S) → takers.entries ≡ [] → AllByRecursion (λ t. t.before ≤ length rows) taken
    → AreFirst rows taken marks (length rows) (length taken) takers
first-none rows taken marks takers none all = record {
  upper = λ k t less there. all-at (λ u. u.before ≤ length rows) taken k t all there;
  next = λ print t u found takes inside. absurd (none-some t (sym (ap (lookup (nat_eq print)) none) ∙ found));
}

-- ---- a taken row

pub first-other : {S : Type 0} (rows : List SelectedRow) (taken : List TakenRow) (marks : List Bool) (after first : ℕ) (r : TakenRow) (old new : IndexMap ℕ Taker S)
    → AreFirst rows taken marks after (first + 1) old → slice_get taken first ≡ Some r
    → ((q : ℕ) → get nat_eq new q ≡ cond (nat_eq r.print q) (Some (Other first)) (get nat_eq old q)) → AreFirst rows taken marks after first new
first-other rows taken marks after first r old new are there put = record {
  upper = λ k t less at. are.upper k t (omega (arith, less)) at;
  next = λ print t u found takes inside. chosen print t u found takes inside;
}
  where
    low : r.before ≤ after
    low = are.upper first r (omega arith) there

    -- it comes before all others
    own : (print : ℕ) (u : Taker) → Takes rows taken marks after print u → IsIn first u → IsNoLater taken (Other first) u
    own print (Selected m) (row, at, is, mark, from) inside = λ t here.
        let same : r.before ≡ t.before = ap (λ w. w.before) (same_Some r t (sym there ∙ here)) in
        omega (arith, from, same, low)
    own print (Other k) takes inside = inside

    others : (print : ℕ) → nat_eq r.print print ≡ false → (t u : Taker) → get nat_eq old print ≡ Some t → Takes rows taken marks after print u → IsIn first u → IsNoLater taken t u
    others print apart t (Selected m) found takes inside = are.next print t (Selected m) found takes tt
    others print apart t (Other k) found (row, at, is, from) inside = by_case (nat_eq first k) refl
      where
        by_case : (b : Bool) → nat_eq first k ≡ b → IsNoLater taken t (Other k)
        by_case true same =
            let it : r ≡ row = same_Some r row (sym there ∙ ap (slice_get taken) (eqb-true first k same) ∙ at) in
            absurd (false≢true (sym apart ∙ eq-eqb r.print print (ap (λ w. w.print) it ∙ is)))
        by_case false other = are.next print t (Other k) found (row, at, is, from) (beyond first k inside (λ same. false≢true (sym other ∙ eq-eqb first k same)))

    chosen : (print : ℕ) (t u : Taker) → get nat_eq new print ≡ Some t → Takes rows taken marks after print u → IsIn first u → IsNoLater taken t u
    chosen print t u found takes inside = by_case (nat_eq r.print print) refl
      where
        by_case : (b : Bool) → nat_eq r.print print ≡ b → IsNoLater taken t u
        by_case true same =
            let it : Other first ≡ t = same_Some (Other first) t (sym (cond-true (nat_eq r.print print) (Some (Other first)) (get nat_eq old print) same) ∙ sym (put print) ∙ found) in
            subst (λ (v : Taker). IsNoLater taken v u) it (own print u takes inside)
        by_case false apart =
            others print apart t u (sym (cond-false (nat_eq r.print print) (Some (Other first)) (get nat_eq old print) apart) ∙ sym (put print) ∙ found) takes inside

-- ---- a selected change

-- what takes a row after a change that was looked at took it before
still-taken : (rows : List SelectedRow) (taken : List TakenRow) (marks : List Bool) (row first : ℕ) (b : Bool) (print : ℕ) (u : Taker) → AllByRecursion (λ t. row + 1 ≤ t.before) (drop first taken)
    → Takes rows taken (set marks row b) row print u → IsIn first u → (u ≡ Selected row → ⊥) → Takes rows taken marks (row + 1) print u
still-taken rows taken marks row first b print (Selected m) later (r, at, is, mark, from) inside other =
    let more : row + 1 ≤ m = beyond row m from (λ same. other (ap Selected (sym same))) in
    (r, at, is, sym (set-before marks row m b (omega (arith, more))) ∙ mark, more)
still-taken rows taken marks row first b print (Other k) later (t, at, is, from) inside other = (t, at, is, all-from (λ v. row + 1 ≤ v.before) taken first k t later inside at)

module _ {S : Type 0} (rows : List SelectedRow) (taken : List TakenRow) (marks : List Bool) (row first : ℕ) (r : SelectedRow) (takers : IndexMap ℕ Taker S)
    (rising : AreRising 0 taken) (are : AreTakers rows taken marks (row + 1) first takers) (firsts : AreFirst rows taken marks (row + 1) first takers) (ends : EndsAt taken row first)
    (there : slice_get rows row ≡ Some r) (inside : row < length marks) where
  -- it is kept
  pub first-kept : AreFirst rows taken (set marks row true) row first takers
  first-kept = record {
    upper = below taken row first rising are.within ends;
    next = λ print t u found takes within. firsts.next print t u found (still-taken rows taken marks row first true print u are.later takes within (not_it print u takes)) within;
  }
    where
      not_it : (print : ℕ) (u : Taker) → Takes rows taken (set marks row true) row print u → u ≡ Selected row → ⊥
      not_it print (Other k) takes same = cc
      not_it print (Selected m) (s, at, is, mark, from) same =
          let it : m ≡ row = cc in
          true≢false (same_Some true false (sym (set-here marks row true inside) ∙ ap (slice_get (set marks row true)) (sym it) ∙ mark))

  -- it isn't
  pub first-left-out : (new : IndexMap ℕ Taker S) → Adds takers (print_taken r) (Selected row) new → AreFirst rows taken (set marks row false) row first new
  first-left-out new adds = record {
    upper = below taken row first rising are.within ends;
    next = λ print t u found takes within. by_case (print_taken r) refl adds print t u found takes within;
  }
    where
      others : (print : ℕ) (t u : Taker) → get nat_eq takers print ≡ Some t → Takes rows taken (set marks row false) row print u → IsIn first u → (print_taken r ≡ Some print → ⊥) → IsNoLater taken t u
      others print t u found takes within apart =
          firsts.next print t u found (still-taken rows taken marks row first false print u are.later takes within (not_it u takes)) within
        where
          not_it : (u : Taker) → Takes rows taken (set marks row false) row print u → u ≡ Selected row → ⊥
          not_it (Other k) takes same = cc
          not_it (Selected m) (s, at, is, mark, from) same =
              let it : m ≡ row = cc in
              apart (ap print_taken (same_Some r s (sym there ∙ ap (slice_get rows) (sym it) ∙ at)) ∙ is)

      -- it comes before all others
      own : (print : ℕ) (u : Taker) → Takes rows taken (set marks row false) row print u → IsIn first u → IsNoLater taken (Selected row) u
      own print (Selected m) (s, at, is, mark, from) within = from
      own print (Other k) (t, at, is, from) within = λ v here.
          let more = all-from (λ w. row + 1 ≤ w.before) taken first k v are.later within here in
          omega (arith, more)

      by_case : (o : Option ℕ) → print_taken r ≡ o → Adds takers o (Selected row) new → (print : ℕ) (t u : Taker) → get nat_eq new print ≡ Some t → Takes rows taken (set marks row false) row print u → IsIn first u
          → IsNoLater taken t u
      by_case None is same print t u found takes within = others print t u (ap (λ m. get nat_eq m print) (sym same) ∙ found) takes within (λ some. none-some print (sym is ∙ some))
      by_case (Some p) is put print t u found takes within = with_test (nat_eq p print) refl
        where
          with_test : (b : Bool) → nat_eq p print ≡ b → IsNoLater taken t u
          with_test true same =
              let it : Selected row ≡ t = same_Some (Selected row) t (sym (cond-true (nat_eq p print) (Some (Selected row)) (get nat_eq takers print) same) ∙ sym (put print) ∙ found) in
              subst (λ (v : Taker). IsNoLater taken v u) it (own print u takes within)
          with_test false apart =
              others print t u (sym (cond-false (nat_eq p print) (Some (Selected row)) (get nat_eq takers print) apart) ∙ sym (put print) ∙ found) takes within
              (λ some. false≢true (sym apart ∙ eq-eqb p print (same_Some p print (sym is ∙ some))))

  -- what is found is the next change that takes the row which it left
  pub is-next : (t : Taker) (b : Bool) → option_and_then (get nat_eq takers) (print_left r) ≡ Some t → IsNext rows taken (set marks row b) (record { row = row; by = t })
  is-next t b found = λ s print u at left takes.
      let same : s ≡ r = same_Some s r (sym at ∙ there) in
      let it : get nat_eq takers print ≡ Some t = sym (ap (option_and_then (get nat_eq takers)) (sym (ap print_left same) ∙ left)) ∙ found in
      firsts.next print t u it (before_write print u takes) (all-in print u (before_write print u takes))
    where
      before_write : (print : ℕ) (u : Taker) → Takes rows taken (set marks row b) (row + 1) print u → Takes rows taken marks (row + 1) print u
      before_write print (Selected m) (s, at, is, mark, from) = (s, at, is, sym (set-before marks row m b (omega (arith, from))) ∙ mark, from)
      before_write print (Other k) takes = takes

      all-in : (print : ℕ) (u : Taker) → Takes rows taken marks (row + 1) print u → IsIn first u
      all-in print (Selected m) takes = tt
      all-in print (Other k) (v, at, is, from) = ⊎_elim
          (λ less. let low = below taken row first rising are.within ends k v less at in absurd (omega (arith, low, from)))
          (λ more. more) (cases_lt k first)

-- and still is, once the mark of a change before is written
pub next-still : (rows : List SelectedRow) (taken : List TakenRow) (marks : List Bool) (row : ℕ) (b : Bool) (t : Touched) → row ≤ t.row → IsNext rows taken marks t → IsNext rows taken (set marks row b) t
next-still rows taken marks row b t low is = λ s print u at left takes. is s print u at left (before_write print u takes)
  where
    before_write : (print : ℕ) (u : Taker) → Takes rows taken (set marks row b) (t.row + 1) print u → Takes rows taken marks (t.row + 1) print u
    before_write print (Selected m) (s, at, is, mark, from) = (s, at, is, sym (set-before marks row m b (omega (arith, from, low))) ∙ mark, from)
    before_write print (Other k) takes = takes

-- ---- so far

pub record IsReachedNext {S : Type 0} (rows : List SelectedRow) (taken : List TakenRow) (marks : List Bool) (row first : ℕ) (takers : IndexMap ℕ Taker S) (touched : List Touched) : Type 0 where
  pub firsts : AreFirst rows taken marks row first takers
  pub nexts : AllByRecursion (λ t. (row ≤ t.row) × IsNext rows taken marks t) touched

nexts-still : (rows : List SelectedRow) (taken : List TakenRow) (marks : List Bool) (row : ℕ) (b : Bool) (touched : List Touched) → AllByRecursion (λ t. (row + 1 ≤ t.row) × IsNext rows taken marks t) touched
    → AllByRecursion (λ t. (row ≤ t.row) × IsNext rows taken (set marks row b) t) touched
nexts-still rows taken marks row b [] all = tt
nexts-still rows taken marks row b (t ∷ touched) ((from, is), rest) =
    let low : row ≤ t.row = omega (arith, from) in ((low, next-still rows taken marks row b t low is), nexts-still rows taken marks row b touched rest)

all-push : {A : Type 0} (P : A → Type 0) (xs : List A) (x : A) → AllByRecursion P xs → P x → AllByRecursion P (xs ++ x ∷ [])
all-push P [] x all this = (this, tt)
all-push P (y ∷ xs) x (first, rest) this = (first, all-push P xs x rest this)

pub nexts-all : (rows : List SelectedRow) (taken : List TakenRow) (marks : List Bool) (row : ℕ) (touched : List Touched) → AllByRecursion (λ t. (row ≤ t.row) × IsNext rows taken marks t) touched
    → AllByRecursion (IsNext rows taken marks) touched
nexts-all rows taken marks row [] all = tt
nexts-all rows taken marks row (t ∷ touched) ((from, is), rest) = (is, nexts-all rows taken marks row touched rest)

pub next-none : {S : Type 0} (rows : List SelectedRow) (taken : List TakenRow) (marks : List Bool) (takers : IndexMap ℕ Taker S) (touched : List Touched) → takers.entries ≡ [] → touched ≡ []
    → AllByRecursion (λ t. t.before ≤ length rows) taken → IsReachedNext rows taken marks (length rows) (length taken) takers touched
next-none rows taken marks takers touched none empty placed = record {
  firsts = first-none rows taken marks takers none placed;
  nexts = subst (AllByRecursion (λ t. (length rows ≤ t.row) × IsNext rows taken marks t)) (sym empty) tt;
}

module _ {S : Type 0} (rows : List SelectedRow) (taken : List TakenRow) (marks : List Bool) (had row first : ℕ) (r : SelectedRow) (takers : IndexMap ℕ Taker S) (touched : List Touched)
    (b : Bool) (by_taker : Option Taker) (first0 : ℕ) (takers0 : IndexMap ℕ Taker S) (s : IsReached rows taken marks had first0 takers0 touched) (n : IsReachedNext rows taken marks had first0 takers0 touched)
    (one : had ≡ row + 1) (others : AreTakers rows taken marks (row + 1) first0 takers0 → AreTakers rows taken marks (row + 1) first takers)
    (adds_first : AreFirst rows taken marks (row + 1) first0 takers0 → AreFirst rows taken marks (row + 1) first takers)
    (rising : AreRising 0 taken) (ends : EndsAt taken row first) (there : slice_get rows row ≡ Some r) (test : is_some by_taker ≡ not b) where
  inside : row < length marks
  inside = let low = s.within in let long = s.lengths in omega (arith, low, long, one)

  are : AreTakers rows taken marks (row + 1) first takers
  are = others (subst (λ (k : ℕ). AreTakers rows taken marks k first0 takers0) one s.takers_are)

  firsts_now : AreFirst rows taken marks (row + 1) first takers
  firsts_now = adds_first (subst (λ (k : ℕ). AreFirst rows taken marks k first0 takers0) one n.firsts)

  nexts_now : AllByRecursion (λ t. (row ≤ t.row) × IsNext rows taken (set marks row b) t) touched
  nexts_now = nexts-still rows taken marks row b touched (subst (λ (k : ℕ). AllByRecursion (λ t. (k ≤ t.row) × IsNext rows taken marks t) touched) one n.nexts)

  pub next-kept : by_taker ≡ None → IsReachedNext rows taken (set marks row b) row first takers touched
  next-kept none =
      let kept : b ≡ true = mark-of by_taker b test ∙ ap is_none none in
      record {
        firsts = subst (λ (c : Bool). AreFirst rows taken (set marks row c) row first takers) (sym kept) (first-kept rows taken marks row first r takers rising are firsts_now ends there inside);
        nexts = nexts_now;
      }

  pub next-left-out : (new : IndexMap ℕ Taker S) (t : Taker) (more : List Touched) → by_taker ≡ option_and_then (get nat_eq takers) (print_left r) → by_taker ≡ Some t → more ≡ touched ++ record { row = row; by = t } ∷ []
      → Adds takers (print_taken r) (Selected row) new → IsReachedNext rows taken (set marks row b) row first new more
  next-left-out new t more look some put adds =
      let gone : b ≡ false = mark-of by_taker b test ∙ ap is_none some in
      let this : Touched = record { row = row; by = t } in
      record {
        firsts = subst (λ (c : Bool). AreFirst rows taken (set marks row c) row first new) (sym gone) (first-left-out rows taken marks row first r takers rising are firsts_now ends there inside new adds);
        nexts = subst (AllByRecursion (λ u. (row ≤ u.row) × IsNext rows taken (set marks row b) u)) (sym put)
            (all-push (λ u. (row ≤ u.row) × IsNext rows taken (set marks row b) u) touched this nexts_now
            (omega arith, is-next rows taken marks row first r takers rising are firsts_now ends there inside t b (sym look ∙ some)));
      }
