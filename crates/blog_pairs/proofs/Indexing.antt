-- Slots are found by the fingerprints of their rows.
use Rattle.std.proofs.Common.{◌≡◌, ◌≢◌, ◌<◌, ◌≤◌, ◌+◌, ℕ, zero, suc, Bool, true, false, List, [], ◌∷◌, length, slice_get, Option, Some, None, sym, ap, ◌∙◌, subst, arith}
use Rattle.std.proofs.lemmas.Bool.{false≢true}
use Rattle.std.proofs.lemmas.Option.{none-some, same_Some}
use Rattle.blog_later.specs.Prints.{print_of}
use Rattle.blog_merge.specs.Pairs.{Pair, in_table, is_of, real_row}
use Rattle.blog_row.specs.Image.{Row}
use Rattle.blog_row.specs.TableMap.{Table}
use Rattle.blog_undo.proofs.Rows.{is_row-Decides}
use Rattle.blog_pairs.specs.Keys.{AreIndexed, IsNextSlot, slot_key}
use Rattle.blog_pairs.specs.Places.{is_in, place_of}
use Rattle.blog_pairs.proofs.RowPlaces.{first_from, none_from}

-- ---- looking up

-- the pairs of a row are in slots from this one on
abbrev pub IsBehind : Table → Row → List (Option Pair) → ℕ → Type 0
IsBehind t r ps from = (i : ℕ) (p : Pair) → slice_get ps i ≡ Some (Some p) → is_of t r p ≡ true → from ≤ i

-- a pair of a row has its fingerprint
indexed_row : (has : ℕ → Bool) (t : Table) (r : Row) (ps : List (Option Pair)) (i : ℕ) (p : Pair) → AreIndexed has ps
    → slice_get ps i ≡ Some (Some p) → is_of t r p ≡ true → has (slot_key (print_of (in_table t r)) i) ≡ true
indexed_row has t r ps i p indexed at is =
    let (in_t, is_r) = (is_row-Decides t r p.table p.real).0 is in
    ap (λ u. has (slot_key (print_of (in_table u r)) i)) in_t ∙ ap (λ s. has (slot_key (print_of (in_table p.table s)) i)) is_r ∙ indexed i p at

-- the next slot with the fingerprint doesn't have the row
pub behind_next : (has : ℕ → Bool) (t : Table) (r : Row) (ps : List (Option Pair)) (print from slot : ℕ) (s : Option Pair) → AreIndexed has ps → print ≡ print_of (in_table t r)
    → IsNextSlot has print from (Some slot) → slice_get ps slot ≡ Some s → is_in t r s ≡ false → IsBehind t r ps from → IsBehind t r ps (slot + 1)
behind_next has t r ps print from slot s indexed same next at not behind i p got is =
    let here : has (slot_key print i) ≡ true = ap (λ n. has (slot_key n i)) same ∙ indexed_row has t r ps i p indexed got is in
    let up : slot ≤ i = next.1 i (behind i p got is) here in
    let other : i ≢ slot = λ e. false≢true (sym not ∙ ap (is_in t r) (same_Some s (Some p) (sym at ∙ subst (λ (j : ℕ). slice_get ps j ≡ Some (Some p)) e got)) ∙ is) in
    omega (arith, up, other)

-- it has the row
pub found_next : (has : ℕ → Bool) (t : Table) (r : Row) (ps : List (Option Pair)) (print from slot : ℕ) (s : Option Pair) → AreIndexed has ps → print ≡ print_of (in_table t r)
    → IsNextSlot has print from (Some slot) → slice_get ps slot ≡ Some s → is_in t r s ≡ true → IsBehind t r ps from → place_of t r ps ≡ Some slot
found_next has t r ps print from slot s indexed same next at is behind =
    first_from t r ps slot s at is (λ i p got is. next.1 i (behind i p got is) (ap (λ n. has (slot_key n i)) same ∙ indexed_row has t r ps i p indexed got is))

there_below : {X : Type 0} (xs : List X) (i : ℕ) (x : X) → slice_get xs i ≡ Some x → i < length xs
there_below [] i x e = absurd (none-some x e)
there_below (y ∷ xs) zero x e = omega arith
there_below (y ∷ xs) (suc i) x e = let h = there_below xs i x e in omega (arith, h)

-- it is past the slots
pub past_slots : (has : ℕ → Bool) (t : Table) (r : Row) (ps : List (Option Pair)) (print from slot : ℕ) → AreIndexed has ps → print ≡ print_of (in_table t r)
    → IsNextSlot has print from (Some slot) → length ps ≤ slot → IsBehind t r ps from → place_of t r ps ≡ None
past_slots has t r ps print from slot indexed same next past behind =
    none_from t r ps (λ i p got is.
    let up : slot ≤ i = next.1 i (behind i p got is) (ap (λ n. has (slot_key n i)) same ∙ indexed_row has t r ps i p indexed got is) in
    let below : i < length ps = there_below ps i (Some p) got in
    omega (arith, up, below, past))

-- no slot has the fingerprint
pub no_next : (has : ℕ → Bool) (t : Table) (r : Row) (ps : List (Option Pair)) (print from : ℕ) → AreIndexed has ps → print ≡ print_of (in_table t r) → length ps ≤ 18446744073709551616
    → IsNextSlot has print from None → IsBehind t r ps from → place_of t r ps ≡ None
no_next has t r ps print from indexed same few next behind =
    none_from t r ps (λ i p got is.
    let below : i < length ps = there_below ps i (Some p) got in
    false≢true (sym (next i (behind i p got is) (omega (arith, below, few))) ∙ ap (λ n. has (slot_key n i)) same ∙ indexed_row has t r ps i p indexed got is))

-- ---- other keys

-- more keys do no harm
pub indexed_more : (has new : ℕ → Bool) (ps : List (Option Pair)) → ((q : ℕ) → has q ≡ true → new q ≡ true) → AreIndexed has ps → AreIndexed new ps
indexed_more has new ps more indexed i p at = more (slot_key (print_of (real_row p)) i) (indexed i p at)

other_key : (a b i k : ℕ) → i < 18446744073709551616 → k < 18446744073709551616 → slot_key a i ≡ slot_key b k → (a ≡ b) × (i ≡ k)
other_key a b i k low few e = (omega (arith, low, few, e), omega (arith, low, few, e))

-- the key of a slot is taken out that hasn't this fingerprint
pub indexed_less : (has new : ℕ → Bool) (ps : List (Option Pair)) (print k : ℕ) → length ps ≤ 18446744073709551616 → k < length ps
    → ((q : ℕ) → q ≢ slot_key print k → new q ≡ has q) → ((p : Pair) → slice_get ps k ≡ Some (Some p) → print_of (real_row p) ≢ print)
    → AreIndexed has ps → AreIndexed new ps
indexed_less has new ps print k few within keeps not indexed i p at =
    let below : i < length ps = there_below ps i (Some p) at in
    let other : slot_key (print_of (real_row p)) i ≢ slot_key print k = λ e.
    let (same, here) = other_key (print_of (real_row p)) print i k (omega (arith, below, few)) (omega (arith, within, few)) e in
    not p (subst (λ (j : ℕ). slice_get ps j ≡ Some (Some p)) here at) same in
    keeps (slot_key (print_of (real_row p)) i) other ∙ indexed i p at
