-- Keys of slots: the fingerprint of a row, and the number of its slot.
use Rattle.std.specs.Prelude.{◌≡◌, ◌≢◌, ◌≤◌, ◌<◌, ℕ, ◌+◌, ◌*◌, Bool, true, false, List, Option, Some, None}
use Rattle.std.specs.BTreeSet.{BTreeSet, contains}
use Rattle.std.specs.Ordering.{nat_cmp}
use Rattle.blog_later.specs.Prints.{print_of}
use Rattle.blog_merge.specs.Pairs.{Pair, real_row}
use Rattle.blog_pairs.specs.Places.{EachSlot}

-- a number below 2^64 behind a fingerprint
abbrev pub slot_key : ℕ → ℕ → ℕ
slot_key print slot = print * 18446744073709551616 + slot

-- a set has the key of each slot with a pair
abbrev pub AreIndexed : (ℕ → Bool) → List (Option Pair) → Type 0
AreIndexed has slots = EachSlot (λ i p. has (slot_key (print_of (real_row p)) i) ≡ true) slots

-- the least key of a set from a number on
abbrev pub IsLeastFrom : (ℕ → Bool) → ℕ → Option ℕ → Type 0
IsLeastFrom has from None = (q : ℕ) → from ≤ q → has q ≡ false
IsLeastFrom has from (Some key) = (from ≤ key) × ((q : ℕ) → from ≤ q → has q ≡ true → key ≤ q)

-- no slot from a number on has the fingerprint before this one; without it none has it
abbrev pub IsNextSlot : (ℕ → Bool) → ℕ → ℕ → Option ℕ → Type 0
IsNextSlot has print from None = (i : ℕ) → from ≤ i → i < 18446744073709551616 → has (slot_key print i) ≡ false
IsNextSlot has print from (Some slot) = (from ≤ slot) × ((i : ℕ) → from ≤ i → has (slot_key print i) ≡ true → slot ≤ i)

-- no key is lost
abbrev pub KeepsKeys : BTreeSet ℕ → BTreeSet ℕ → Type 0
KeepsKeys old new = (q : ℕ) → contains nat_cmp old q ≡ true → contains nat_cmp new q ≡ true

-- no other key than this one is lost or comes
abbrev pub LosesKey : BTreeSet ℕ → BTreeSet ℕ → ℕ → Type 0
LosesKey old new key = (q : ℕ) → q ≢ key → contains nat_cmp new q ≡ contains nat_cmp old q
