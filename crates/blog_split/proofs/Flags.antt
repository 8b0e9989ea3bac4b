-- Flags of maps: set, taken back, and added.
use Rattle.std.proofs.Common.{◌≡◌, ◌≢◌, ℕ, ◌<◌, ◌≤◌, Bool, true, false, ◌||◌, List, [], ◌∷◌, ◌++◌, length, take, drop, Some, refl, sym, ap, ap₂, ◌∙◌, arith, slice_get, get_or}
use Rattle.std.specs.Prelude.{nat_eq}
use Rattle.std.specs.Cmp.{nat_eq_equiv}
use Rattle.std.specs.List.{All, IsDistinct, list_any}
use Rattle.std.specs.List.Sorted.{IsPermutation}
use Rattle.std.proofs.Math.ListN.{set}
use Rattle.std.proofs.Math.Bool.{or-false}
use Rattle.std.proofs.lemmas.Bool.{eqb-true, eqb-false, false≢true}
use Rattle.std.proofs.lemmas.List.{get_or-set_other, get_or-set_same, get_or_push, length-set, length_push, take-append-le, take_all}
use Rattle.std.proofs.lemmas.List.Elements.{All-head, All-nil, All-push, All-tail}
use Rattle.std.proofs.lemmas.List.Folds.{list_any-append, list_any_none}
use Rattle.std.proofs.lemmas.List.Sorted.{All-permutation, list_any-IsPermutation}
use Rattle.std.proofs.lemmas.Map.Keys.{IsDistinct-IsPermutation, IsDistinct-push}
use Rattle.std.proofs.lemmas.Map.Steps.{length-le_from_distinct_below}
use Rattle.std.proofs.lemmas.Option.{get_or_from_slice_get, none-some, same_Some, slice_get-get_or, slice_get_within}
use Rattle.blog_trans.proofs.EntriesFound.{get_front}
use Rattle.blog_split.specs.code.Marks.{AreFlags}
use Rattle.blog_split.proofs.MapIds.{at-some, differs}

-- a flag by its number
flag-of : (flags : List Bool) (k : ℕ) (b : Bool) → slice_get flags k ≡ Some b → get_or flags k false ≡ b
flag-of flags k b is = get_or_from_slice_get flags k b false is

-- none of the numbers is one that is past the flags
none-past : (ns : List ℕ) (n k : ℕ) → All (λ m. m < n) ns → n ≤ k → list_any (λ m. nat_eq m k) ns ≡ false
none-past ns n k within past = list_any_none (λ m. nat_eq m k) ns (λ i d here. differs _ k (λ same. omega (arith, within i d here, same, past)))

-- ---- one more flag

pub flags-push : (ns : List ℕ) (flags : List Bool) → AreFlags ns flags → AreFlags ns (flags ++ false ∷ [])
flags-push ns flags are =
    let long = length_push flags false in
    record {
      within = λ i d here. omega (arith, are.within i d here, long);
      once = are.once;
      each = λ k b is. by_place k b is (nat_eq k (length flags)) refl (slice_get_within (flags ++ false ∷ []) k b is);
    }
  where
    by_place : (k : ℕ) (b : Bool) → slice_get (flags ++ false ∷ []) k ≡ Some b → (t : Bool) → nat_eq k (length flags) ≡ t → k < length (flags ++ false ∷ []) → b ≡ list_any (λ n. nat_eq n k) ns
    by_place k b is true here below =
        let at : length flags ≡ k = sym (eqb-true k (length flags) here) in
        sym (flag-of (flags ++ false ∷ []) k b is) ∙ get_or_push flags false false k at ∙ sym (none-past ns (length flags) k are.within (omega (arith, at)))
    by_place k b is false here below =
        let under : k < length flags = omega (arith, below, length_push flags false, eqb-false k (length flags) here) in
        let p = at-some flags k under in
        let same : p.0 ≡ b = same_Some p.0 b (sym (get_front flags (false ∷ []) k p.0 p.1) ∙ is) in
        sym same ∙ are.each k p.0 p.1

-- ---- a flag that is set

any-flipped : (ns : List ℕ) (n : ℕ) → list_any (nat_eq n) ns ≡ list_any (λ m. nat_eq m n) ns
any-flipped [] n = refl
any-flipped (m ∷ ns) n = ap₂ ◌||◌ (nat_eq_equiv.symm n m) (any-flipped ns n)

pub or-true : (b : Bool) → (b || true) ≡ true
or-true true = refl
or-true false = refl

pub flags-set : (ns : List ℕ) (flags : List Bool) (n : ℕ) → AreFlags ns flags → slice_get flags n ≡ Some false → AreFlags (ns ++ n ∷ []) (set flags n true)
flags-set ns flags n are unset =
    let long = length-set flags n true in
    let below = slice_get_within flags n false unset in
    record {
      within = All-push (λ m. m < length (set flags n true)) ns n (λ i d here. omega (arith, are.within i d here, long)) (omega (arith, below, long));
      once = IsDistinct-push nat_eq_equiv ns n are.once (any-flipped ns n ∙ sym (are.each n false unset));
      each = λ k b is. by_place k b is (nat_eq n k) refl below (slice_get_within (set flags n true) k b is) ∙ sym (list_any-append (λ m. nat_eq m k) ns (n ∷ []));
    }
  where
    by_place : (k : ℕ) (b : Bool) → slice_get (set flags n true) k ≡ Some b → (t : Bool) → nat_eq n k ≡ t → n < length flags → k < length (set flags n true)
        → b ≡ (list_any (λ m. nat_eq m k) ns || (nat_eq n k || false))
    by_place k b is true here below inside =
        let at : n ≡ k = eqb-true n k here in
        sym (flag-of (set flags n true) k b is) ∙ ap (λ (x : ℕ). get_or (set flags n true) x false) (sym at) ∙ get_or-set_same flags n true false below
        ∙ sym (ap (λ (t : Bool). list_any (λ m. nat_eq m k) ns || (t || false)) here ∙ or-true (list_any (λ m. nat_eq m k) ns))
    by_place k b is false here below inside =
        let apart : k ≢ n = λ same. eqb-false n k here (sym same) in
        let under : k < length flags = omega (arith, inside, length-set flags n true) in
        sym (flag-of (set flags n true) k b is) ∙ get_or-set_other flags n k true false apart ∙ are.each k (get_or flags k false) (slice_get-get_or flags k false under)
        ∙ sym (ap (λ (t : Bool). list_any (λ m. nat_eq m k) ns || (t || false)) here ∙ or-false (list_any (λ m. nat_eq m k) ns))

-- so there are fewer numbers than flags where one isn't set
any-below : (ns : List ℕ) (n q : ℕ) → All (λ m. m < n) ns → list_any (nat_eq q) ns ≡ true → q < n
any-below [] n q within some = absurd (false≢true some)
any-below (m ∷ ns) n q within some = by_case (nat_eq q m) refl (any-below ns n q (All-tail (λ x. x < n) m ns within)) some
  where
    by_case : (b : Bool) → nat_eq q m ≡ b → (list_any (nat_eq q) ns ≡ true → q < n) → (b || list_any (nat_eq q) ns) ≡ true → q < n
    by_case true here others some = omega (arith, eqb-true q m here, All-head (λ x. x < n) m ns within)
    by_case false here others some = others some

pub fewer-than-flags : (ns : List ℕ) (flags : List Bool) (n : ℕ) → AreFlags ns flags → slice_get flags n ≡ Some false → length ns < length flags
fewer-than-flags ns flags n are unset =
    let one = flags-set ns flags n are unset in
    omega (
      arith,
      length-le_from_distinct_below (ns ++ n ∷ []) (length (set flags n true)) one.once (λ q some. any-below (ns ++ n ∷ []) (length (set flags n true)) q one.within some),
      length-set flags n true,
      length_push ns n,
    )

-- ---- flags that are taken back

-- only flags of these numbers are set
abbrev pub AreLeft : List ℕ → List Bool → Type 0
AreLeft ns flags = (k : ℕ) → slice_get flags k ≡ Some true → list_any (λ n. nat_eq n k) ns ≡ true

pub left-all : (ns : List ℕ) (flags : List Bool) → AreFlags ns flags → AreLeft ns flags
left-all ns flags are = λ k is. sym (are.each k true is)

pub left-fewer : (n : ℕ) (ns : List ℕ) (flags : List Bool) → AreLeft (n ∷ ns) flags → AreLeft ns (set flags n false)
left-fewer n ns flags left = λ k is. by_place k is (nat_eq n k) refl (slice_get_within (set flags n false) k true is)
  where
    by_place : (k : ℕ) → slice_get (set flags n false) k ≡ Some true → (t : Bool) → nat_eq n k ≡ t → k < length (set flags n false) → list_any (λ m. nat_eq m k) ns ≡ true
    by_place k is true here inside =
        let at : n ≡ k = eqb-true n k here in
        let under : n < length flags = omega (arith, inside, at, length-set flags n false) in
        absurd (false≢true (sym (get_or-set_same flags n false false under) ∙ ap (λ (x : ℕ). get_or (set flags n false) x false) at ∙ flag-of (set flags n false) k true is))
    by_place k is false here inside =
        let apart : k ≢ n = λ same. eqb-false n k here (sym same) in
        let under : k < length flags = omega (arith, inside, length-set flags n false) in
        let set_before : get_or flags k false ≡ true = sym (get_or-set_other flags n k false false apart) ∙ flag-of (set flags n false) k true is in
        sym (ap (λ (t : Bool). t || list_any (λ m. nat_eq m k) ns) here) ∙ left k (slice_get-get_or flags k false under ∙ ap Some set_before)

pub left-none : (flags : List Bool) → AreLeft [] flags → AreFlags [] flags
unfolding IsDistinct
left-none flags left = record { within = All-nil (λ n. n < length flags); once = tt; each = λ k b is. by_flag k b is }
  where
    by_flag : (k : ℕ) (b : Bool) → slice_get flags k ≡ Some b → b ≡ false
    by_flag k true is = absurd (false≢true (left k is))
    by_flag k false is = refl

-- no flags
pub flags-none : AreFlags [] []
unfolding IsDistinct
flags-none = record { within = All-nil (λ n. n < 0); once = tt; each = λ k b is. absurd (none-some b is) }

-- flags that are lent whole come back whole
pub lent-back : (n : ℕ) (xs ys : List Bool) → length xs ≡ n → take n (xs ++ drop (length xs) ys) ≡ xs
lent-back n xs ys long = take-append-le n xs (drop (length xs) ys) (omega (arith, long)) ∙ take_all n xs (omega (arith, long))

-- ---- numbers in another order

pub flags-moved : (ns ms : List ℕ) (flags : List Bool) → IsPermutation ns ms → AreFlags ns flags → AreFlags ms flags
flags-moved ns ms flags moved are = record {
  within = All-permutation (λ n. n < length flags) ns ms moved are.within;
  once = IsDistinct-IsPermutation nat_eq nat_eq_equiv.symm ns ms moved are.once;
  each = λ k b is. are.each k b is ∙ list_any-IsPermutation (λ n. nat_eq n k) ns ms moved;
}
