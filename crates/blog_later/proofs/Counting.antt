-- Numbers that are counted up to the greatest one of 64 bits, and fingerprints that are kept in order.
use Rattle.std.proofs.Common.{◌≡◌, ℕ, ◌+◌, ◌-◌, ◌^◌, ◌≤◌, ◌<◌, Bool, true, false, cond, List, [], ◌∷◌, ◌++◌, length, Result, Ok, Err, refl, sym, ap, ◌∙◌, arith, length-append, append_assoc, ne_eqb}
use Rattle.std.specs.Prelude.{filter, min, nat_eq, is_ok, option_map, slice_index_or, MatchResult}
use Rattle.std.specs.List.{list_any}
use Rattle.std.specs.List.Sorted.{IsBinarySearchResult, IsSorted}
use Rattle.std.specs.Ordering.{nat_cmp}
use Rattle.std.proofs.lemmas.Bool.{cases_lt, eq-eqb, false≢true}
use Rattle.std.proofs.lemmas.List.{get_or_default}
use Rattle.std.proofs.lemmas.List.Elements.{filter-append, filter_map-append}
use Rattle.std.proofs.lemmas.List.Folds.{list_any_at, list_any_none}
use Rattle.std.proofs.lemmas.List.Sorted.{IsNonDecreasingBy-from_sort, searched}
use Rattle.blog_trans.specs.Changes.{Change}
use Rattle.blog_trans.specs.code.InTurn.{GroupEvent}
use Rattle.blog_undo.specs.Mixed.{TableRow, leaves}
use Rattle.blog_later.specs.Prints.{prints_left}
use Rattle.blog_later.specs.code.Counted.{at_most}
use Rattle.blog_later.specs.code.EventChanges.{event_changes, events_changes}
use mathlib.Core.Logic.{⊎_elim}

pub at-more : (a b n m : ℕ) → a ≡ at_most n → b ≡ at_most m → min (a + b) (2 ^ 64 - 1) ≡ at_most (n + m)
at-more a b n m is more = omega (arith, is, more)

pub count-append : {A : Type 0} (test : A → Bool) (xs ys : List A) → length (filter test (xs ++ ys)) ≡ length (filter test xs) + length (filter test ys)
count-append test xs ys = ap length (filter-append test xs ys) ∙ length-append (filter test xs) (filter test ys)

-- so many were counted, and with those of the rest it is all
abbrev pub IsCounted : {A : Type 0} → (A → Bool) → ℕ → List A → ℕ → Type 0
IsCounted test counted rest all = (n : ℕ) × (counted ≡ at_most n) × (n + length (filter test rest) ≡ all)

pub counted-none : {A : Type 0} (test : A → Bool) (rest all : List A) → rest ≡ all → IsCounted test 0 rest (length (filter test all))
counted-none test rest all is = let same = ap (λ xs. length (filter test xs)) is in (0, refl, omega (arith, same))

pub counted-more : {A : Type 0} (test : A → Bool) (a b all : ℕ) (rest first later : List A) → rest ≡ first ++ later → b ≡ at_most (length (filter test first))
    → IsCounted test a rest all → IsCounted test (min (a + b) (2 ^ 64 - 1)) later all
counted-more test a b all rest first later parts more (n, is, sum) =
    let split = ap (λ xs. length (filter test xs)) parts ∙ count-append test first later in
    (n + length (filter test first), at-more a b n (length (filter test first)) is more, omega (arith, split, sum))

pub counted-all : {A : Type 0} (test : A → Bool) (a all : ℕ) (rest : List A) → rest ≡ [] → IsCounted test a rest all → a ≡ at_most all
counted-all test a all rest none (n, is, sum) = let left = ap (λ xs. length (filter test xs)) none in is ∙ ap at_most (omega (arith, left, sum))

-- one is counted
pub just-one : (b : Bool) (n : ℕ) → n ≡ cond b 1 0 → b ≡ true → 1 ≡ at_most n
just-one true n is holds = ap at_most (sym is)
just-one false n is holds = absurd (false≢true holds)

-- ---- one more event

pub left-append : (f : TableRow → ℕ) (cs ds : List Change) → prints_left f (cs ++ ds) ≡ prints_left f cs ++ prints_left f ds
left-append f cs ds = filter_map-append (λ c. option_map f (leaves c)) cs ds

pub put-more : (f : TableRow → ℕ) (e : GroupEvent) (left rest : List GroupEvent) (had has : List ℕ) (all : List ℕ) → left ≡ e ∷ rest → has ≡ had ++ prints_left f (event_changes e)
    → had ++ prints_left f (events_changes left) ≡ all → has ++ prints_left f (events_changes rest) ≡ all
put-more f e left rest had has all first put is =
    ap (λ (ps : List ℕ). ps ++ prints_left f (events_changes rest)) put
    ∙ append_assoc had (prints_left f (event_changes e)) (prints_left f (events_changes rest))
    ∙ ap (λ (ps : List ℕ). had ++ ps) (sym (left-append f (event_changes e) (events_changes rest)))
    ∙ ap (λ (es : List GroupEvent). had ++ prints_left f (events_changes es)) (sym first) ∙ is

-- ---- in order

pub found-sorted : (xs : List ℕ) (x : ℕ) (r : Result ℕ ℕ) → IsBinarySearchResult (λ y. nat_cmp y x) xs r → IsSorted nat_cmp xs → is_ok r ≡ list_any (nat_eq x) xs
found-sorted xs x r is sorted = by_case r (searched xs x r is (λ i j low high. IsNonDecreasingBy-from_sort (λ y. y) xs sorted i j 0 low high))
  where
    apart : (n : ℕ) → ((k : ℕ) → k < n → slice_index_or xs k 0 < x) → ((k : ℕ) → n ≤ k → k < length xs → x < slice_index_or xs k 0) → (k d : ℕ) → k < length xs → nat_eq x (slice_index_or xs k d) ≡ false
    apart n below above k d there = ne_eqb x (slice_index_or xs k d) (λ same.
        let same : x ≡ slice_index_or xs k 0 = same ∙ get_or_default xs k d 0 there in
        ⊎_elim (λ low. let less = below k low in omega (arith, less, same)) (λ high. let more = above k high there in omega (arith, more, same)) (cases_lt k n))

    by_case : (s : Result ℕ ℕ)
        → MatchResult s (λ i. (i < length xs) × (slice_index_or xs i 0 ≡ x)) (λ i. (i ≤ length xs) × ((k : ℕ) → k < i → slice_index_or xs k 0 < x) × ((k : ℕ) → i ≤ k → k < length xs → x < slice_index_or xs k 0))
        → is_ok s ≡ list_any (nat_eq x) xs
    by_case (Ok i) (there, same) = sym (list_any_at (nat_eq x) xs i 0 there (eq-eqb x (slice_index_or xs i 0) (sym same)))
    by_case (Err i) (within, below, above) = sym (list_any_none (nat_eq x) xs (apart i below above))
