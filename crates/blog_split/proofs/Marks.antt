-- The maps that rows events of a statement use, marked by their numbers.
use Rattle.std.proofs.Common.{◌≡◌, ℕ, zero, suc, ◌+◌, ◌<◌, ◌≤◌, Bool, true, false, ◌||◌, get_or, List, [], ◌∷◌, ◌++◌, length, filter, drop, Option, Some, None, IfSome, refl, sym, ap, ap₂, subst, ◌∙◌, arith, bytes_eq, slice_get}
use Rattle.std.specs.Prelude.{nat_eq, ⊤}
use Rattle.std.specs.Option.{option_to_list}
use Rattle.std.specs.List.{All, AllByRecursion, AllPairs, cons_option, list_any}
use Rattle.std.specs.List.Sorted.{IsPermutation, IsStrictlyIncreasing}
use Rattle.std.proofs.lemmas.Bool.{cond-true, cond-false, eqb-true, eqb-false}
use Rattle.std.proofs.Math.Bool.{or-false}
use Rattle.std.proofs.lemmas.List.{drop_all}
use Rattle.std.proofs.lemmas.Option.{same_Some, slice_get-get_or}
use Rattle.std.proofs.lemmas.List.Elements.{All-nil, All-cons, All-append, recursion_from_All}
use Rattle.std.proofs.lemmas.List.Folds.{list_any-append}
use Rattle.std.proofs.lemmas.List.Kept.{AllPairs-from_increasing}
use Rattle.std.proofs.lemmas.List.Sorted.{All-permutation, list_any-IsPermutation}
use Rattle.blog_event.specs.Event.{Event}
use Rattle.blog_row.specs.RowsEvent.{table_id}
use Rattle.blog_trans.specs.Groups.{RowsEvent}
use Rattle.blog_trans.proofs.Turns.{drop-at}
use Rattle.blog_split.specs.Cuts.{is_used_by}
use Rattle.blog_split.specs.code.Marks.{goes_by, is_number, AreFlags, AreMarks, AreUsed, IsMapNumber, IsUnmarked, numbered}
use Rattle.blog_split.proofs.MapIds.{at-some, differs}

-- ---- marking

-- a map is used by rows events and one more
used-joined : (piece : List RowsEvent) (r : RowsEvent) (m : Event) → is_used_by (piece ++ r ∷ []) m ≡ (is_used_by piece m || goes_by r m)
used-joined piece r m = list_any-append (λ (x : RowsEvent). bytes_eq (table_id m.body) x.content.id) piece (r ∷ []) ∙ ap (λ (b : Bool). is_used_by piece m || b) (or-false (goes_by r m))

pub marks-none : (maps : List Event) → AreMarks maps [] []
marks-none maps = record { within = All-nil (λ n. n < length maps); marked = λ k m here. refl }

number-within : (n : ℕ) (o : Option ℕ) → IfSome o (λ m. m < n) → All (λ m. m < n) (option_to_list o)
number-within n None within = All-nil (λ m. m < n)
number-within n (Some m) within = All-cons (λ x. x < n) m [] within (All-nil (λ x. x < n))

any-option : (o : Option ℕ) (k : ℕ) → list_any (λ n. nat_eq n k) (option_to_list o) ≡ is_number o k
any-option None k = refl
any-option (Some n) k = or-false (nat_eq n k)

-- what a piece gets by one more rows event: the map of this number, which none of its own uses
pub record IsAdded (maps : List Event) (piece : List RowsEvent) (r : RowsEvent) (number : Option ℕ) : Type 0 where
  pub within : IfSome number (λ n. n < length maps)
  pub goes : (k : ℕ) (m : Event) → slice_get maps k ≡ Some m → is_used_by (piece ++ r ∷ []) m ≡ (is_used_by piece m || is_number number k)
  pub is_new : (n : ℕ) (m : Event) → number ≡ Some n → slice_get maps n ≡ Some m → is_used_by piece m ≡ false

-- its marks
pub marks-more : (maps : List Event) (piece : List RowsEvent) (r : RowsEvent) (ns : List ℕ) (number : Option ℕ) → AreMarks maps piece ns → IsAdded maps piece r number
    → AreMarks maps (piece ++ r ∷ []) (ns ++ option_to_list number)
marks-more maps piece r ns number marks added = record {
  within = All-append (λ n. n < length maps) ns (option_to_list number) marks.within (number-within (length maps) number added.within);
  marked = λ k m at.
      added.goes k m at ∙ ap₂ ◌||◌ (marks.marked k m at) (sym (any-option number k)) ∙ sym (list_any-append (λ n. nat_eq n k) ns (option_to_list number));
}

-- in another order
pub marks-moved : (maps : List Event) (rows : List RowsEvent) (ns ms : List ℕ) → AreMarks maps rows ns → IsPermutation ns ms → AreMarks maps rows ms
marks-moved maps rows ns ms marks moved = record {
  within = All-permutation (λ n. n < length maps) ns ms moved marks.within;
  marked = λ k p at. marks.marked k p at ∙ list_any-IsPermutation (λ n. nat_eq n k) ns ms moved;
}

-- ---- flags

module _ (maps : List Event) (piece : List RowsEvent) (ns : List ℕ) (flags : List Bool) (marks : AreMarks maps piece ns) (are : AreFlags ns flags) where
  -- a flag says whether the piece uses the map
  flag-is : (k : ℕ) (b : Bool) (m : Event) → slice_get flags k ≡ Some b → slice_get maps k ≡ Some m → is_used_by piece m ≡ b
  flag-is k b m set here = marks.marked k m here ∙ sym (are.each k b set)

  -- one more rows event gets the map that it goes by, unless the flag of this is set
  pub added-unmarked : (r : RowsEvent) (found number : Option ℕ) → IsMapNumber maps r found → IsUnmarked flags found number → IsAdded maps piece r number
  added-unmarked r None None is unmarked = record {
    within = tt;
    goes = λ k m here. used-joined piece r m ∙ ap (λ (b : Bool). is_used_by piece m || b) (is.goes k m here);
    is_new = λ n m none here. absurd (cc none);
  }
  added-unmarked r (Some f) None is unmarked = record {
    within = tt;
    goes = λ k m here. used-joined piece r m ∙ ap (λ (b : Bool). is_used_by piece m || b) (is.goes k m here) ∙ by_number k m here (nat_eq f k) refl;
    is_new = λ n m none here. absurd (cc none);
  }
    where
      by_number : (k : ℕ) (m : Event) → slice_get maps k ≡ Some m → (b : Bool) → nat_eq f k ≡ b → (is_used_by piece m || b) ≡ (is_used_by piece m || false)
      by_number k m here true same =
          let used : is_used_by piece m ≡ true = flag-is k true m (ap (slice_get flags) (sym (eqb-true f k same)) ∙ unmarked) here in
          rw used refl
      by_number k m here false same = refl
  added-unmarked r None (Some n) is (same, unset) = absurd (cc same)
  added-unmarked r (Some f) (Some n) is (same, unset) =
      let number : f ≡ n = same_Some f n same in
      record {
        within = subst (λ (x : ℕ). x < length maps) number is.within;
        goes = λ k m here. used-joined piece r m ∙ ap (λ (b : Bool). is_used_by piece m || b) (is.goes k m here ∙ ap (λ (x : ℕ). nat_eq x k) number);
        is_new = λ x m at here. flag-is n false m unset (ap (slice_get maps) (same_Some n x at) ∙ here);
      }

-- ---- the maps of such numbers

-- numbers from one on that rise
abbrev Ascends : ℕ → List ℕ → Type 0
Ascends b [] = ⊤
Ascends b (n ∷ ns) = (b ≤ n) × Ascends (n + 1) ns

ascends : (b : ℕ) (ns : List ℕ) → All (λ n. b ≤ n) ns → AllPairs (λ x y. x < y) ns → Ascends b ns
ascends b [] all pairs = tt
ascends b (n ∷ ns) all pairs =
    (all 0 n (omega arith), ascends (n + 1) ns (λ k d within. omega (arith, pairs 0 (suc k) d (omega arith) (omega (arith, within)))) (λ i j d less within. pairs (suc i) (suc j) d (omega (arith, less)) (omega (arith, within))))

-- none of them is below
below-none : (b k : ℕ) (ns : List ℕ) → Ascends b ns → k < b → list_any (λ n. nat_eq n k) ns ≡ false
below-none b k [] up below = refl
below-none b k (n ∷ ns) up below = ap (λ (t : Bool). t || list_any (λ n. nat_eq n k) ns) (differs n k (λ same. omega (arith, same, up.0, below))) ∙ below-none (n + 1) k ns up.1 (omega (arith, up.0, below))

-- they are the numbers of the maps that pass a test, from one on
numbered-from : (test : Event → Bool) (maps : List Event) (fuel b : ℕ) (ns : List ℕ) → b + fuel ≡ length maps → Ascends b ns → AllByRecursion (λ n. n < length maps) ns
    → ((k : ℕ) (p : Event) → b ≤ k → slice_get maps k ≡ Some p → test p ≡ list_any (λ n. nat_eq n k) ns) → numbered maps ns ≡ filter test (drop b maps)
numbered-from test maps zero b [] end up within same = sym (ap (filter test) (drop_all b maps (omega (arith, end))))
numbered-from test maps zero b (n ∷ ns) end up within same = absurd (omega (arith, end, up.0, within.0))
numbered-from test maps (suc fuel) b [] end up within same =
    let p = at-some maps b (omega (arith, end)) in
    numbered-from test maps fuel (b + 1) [] (omega (arith, end)) tt tt (λ k q above here. same k q (omega (arith, above)) here)
    ∙ sym (ap (filter test) (drop-at maps b p.0 p.1) ∙ cond-false (test p.0) (p.0 ∷ filter test (drop (b + 1) maps)) (filter test (drop (b + 1) maps)) (same b p.0 (omega arith) p.1))
numbered-from test maps (suc fuel) b (n ∷ ns) end up within same = by_case (nat_eq n b) refl (λ ms up within same. numbered-from test maps fuel (b + 1) ms (omega (arith, end)) up within same)
  where
    by_case : (t : Bool) → nat_eq n b ≡ t
        → ((ms : List ℕ) → Ascends (b + 1) ms → AllByRecursion (λ n. n < length maps) ms → ((k : ℕ) (p : Event) → b + 1 ≤ k → slice_get maps k ≡ Some p → test p ≡ list_any (λ n. nat_eq n k) ms)
        → numbered maps ms ≡ filter test (drop (b + 1) maps))
        → numbered maps (n ∷ ns) ≡ filter test (drop b maps)
    by_case true is others =
        let p = at-some maps b (omega (arith, end)) in
        let here : n ≡ b = eqb-true n b is in
        let rest = others ns (subst (λ (m : ℕ). Ascends (m + 1) ns) here up.1) within.1 (λ k q above at. same k q (omega (arith, above)) at ∙ ap (λ (t : Bool). t || list_any (λ n. nat_eq n k) ns) (differs n k (λ same. omega (arith, same, here, above)))) in
        let own = same b p.0 (omega arith) p.1 ∙ ap (λ (t : Bool). t || list_any (λ n. nat_eq n b) ns) is in
        ap (λ (o : Option Event). cons_option o (numbered maps ns)) (ap (slice_get maps) here ∙ p.1) ∙ ap (λ (ms : List Event). p.0 ∷ ms) rest
        ∙ sym (ap (filter test) (drop-at maps b p.0 p.1) ∙ cond-true (test p.0) (p.0 ∷ filter test (drop (b + 1) maps)) (filter test (drop (b + 1) maps)) own)
    by_case false is others =
        let p = at-some maps b (omega (arith, end)) in
        let above : b < n = omega (arith, eqb-false n b is, up.0) in
        let rest = others (n ∷ ns) (omega (arith, above), up.1) within (λ k q behind at. same k q (omega (arith, behind)) at) in
        let own = same b p.0 (omega arith) p.1 ∙ below-none n b (n ∷ ns) (omega arith, up.1) above in
        rest ∙ sym (ap (filter test) (drop-at maps b p.0 p.1) ∙ cond-false (test p.0) (p.0 ∷ filter test (drop (b + 1) maps)) (filter test (drop (b + 1) maps)) own)

-- of all maps
pub used-are : (maps : List Event) (rows : List RowsEvent) (ns : List ℕ) → AreMarks maps rows ns → IsStrictlyIncreasing ns → AreUsed maps rows ns
used-are maps rows ns marks rises = record {
  within = marks.within;
  maps_are = numbered-from (is_used_by rows) maps (length maps) 0 ns (omega arith) (ascends 0 ns (λ k d within. omega arith) (AllPairs-from_increasing ns rises))
      (recursion_from_All (λ n. n < length maps) ns marks.within) (λ k p above here. marks.marked k p here);
}

-- ---- by number

-- a number at its place
pub number-at : (ns : List ℕ) (i d : ℕ) → i < length ns → slice_get ns i ≡ Some (get_or ns i d)
number-at ns i d within = slice_get-get_or ns i d within

-- the map of the first number that is left
pub numbered-first : (maps : List Event) (ns : List ℕ) (i n : ℕ) (m : Event) → slice_get ns i ≡ Some n → slice_get maps n ≡ Some m → numbered maps (drop i ns) ≡ m ∷ numbered maps (drop (i + 1) ns)
numbered-first maps ns i n m at here =
    ap (numbered maps) (drop-at ns i n at) ∙ ap (λ (o : Option Event). cons_option o (numbered maps (drop (i + 1) ns))) here
