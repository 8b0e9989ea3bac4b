-- Pairs in slots are found by their keys, whatever is put in or taken out.
use Rattle.std.proofs.Common.{◌≡◌, ◌≢◌, ◌<◌, ◌≤◌, ℕ, zero, suc, Bool, true, List, [], ◌∷◌, ◌++◌, length, map, set, slice_get, Option, Some, None, option_map, refl, sym, ap, ◌∙◌, subst, arith}
use Rattle.std.specs.BTreeSet.{BTreeSet, contains}
use Rattle.std.specs.Ordering.{nat_cmp}
use Rattle.std.specs.Prelude.{IfSome}
use Rattle.std.proofs.lemmas.List.{length-map, length-set, map-append, map-set}
use Rattle.std.proofs.lemmas.Option.{none-some, same_Some}
use Rattle.blog_later.specs.Prints.{print_of}
use Rattle.blog_merge.specs.Pairs.{Pair, real_row}
use Rattle.blog_pairs.specs.Keys.{AreIndexed, KeepsKeys, LosesKey, slot_key}
use Rattle.blog_pairs.specs.Places.{EachSlot}
use Rattle.blog_pairs.specs.code.PairsView.{HasPrint, IsKept, pair_told, slots_told}
use Rattle.blog_pairs.specs.declared.held.HeldPair.{HeldPair}
use Rattle.blog_pairs.specs.declared.held.HeldPairs.{HeldPairs}
use Rattle.blog_pairs.proofs.EachSlot.{each_more, each_set}
use Rattle.blog_pairs.proofs.Indexing.{indexed_less, indexed_more}

abbrev HasKey : {A : Type 0} → HeldPairs A → ℕ → Bool
HasKey pairs q = contains nat_cmp pairs.keys q

abbrev IsNumbered : {A : Type 0} → List (List ℕ) → List (Option (HeldPair A)) → Type 0
IsNumbered {A} bodies slots = EachSlot (λ i (p : HeldPair A). p.table < length bodies) slots

abbrev HasSlotKey : (ℕ → Bool) → ℕ → Pair → Type 0
HasSlotKey has i p = has (slot_key (print_of (real_row p)) i) ≡ true

-- the slots are the same
pub kept_same : {A : Type 0} (bodies : List (List ℕ)) (old new : HeldPairs A) → new.slots.items ≡ old.slots.items → KeepsKeys old.keys new.keys → IsKept bodies old → IsKept bodies new
kept_same bodies old new same more kept = record {
  numbered = subst (IsNumbered bodies) (sym same) kept.numbered;
  indexed = subst (λ slots. AreIndexed (HasKey new) (slots_told bodies slots)) (sym same) (indexed_more (HasKey old) (HasKey new) (slots_told bodies old.slots.items) more kept.indexed);
}

-- one more slot
pub kept_push : {A : Type 0} (bodies : List (List ℕ)) (old new : HeldPairs A) (p : HeldPair A) (print slot : ℕ) → new.slots.items ≡ old.slots.items ++ Some p ∷ [] → KeepsKeys old.keys new.keys
    → slot ≡ length old.slots.items → contains nat_cmp new.keys (slot_key print slot) ≡ true → HasPrint bodies p print → IsKept bodies old → IsKept bodies new
kept_push {A} bodies old new p print slot pushed more last has own kept =
    let tell : Option (HeldPair A) → Option Pair = option_map (pair_told bodies) in
    let long : length (slots_told bodies old.slots.items) ≡ slot = length-map old.slots.items tell ∙ sym last in
    let here : HasSlotKey (HasKey new) (length (slots_told bodies old.slots.items)) (pair_told bodies p) =
    ap (λ n. HasKey new (slot_key n (length (slots_told bodies old.slots.items)))) (sym own.1) ∙ ap (λ n. HasKey new (slot_key print n)) long ∙ has in
    let told : slots_told bodies new.slots.items ≡ slots_told bodies old.slots.items ++ Some (pair_told bodies p) ∷ [] = ap (map tell) pushed ∙ map-append tell old.slots.items (Some p ∷ []) in
    record {
      numbered = subst (IsNumbered bodies) (sym pushed) (each_more (λ i (p : HeldPair A). p.table < length bodies) old.slots.items p own.0 kept.numbered);
      indexed = subst (AreIndexed (HasKey new)) (sym told) (each_more (HasSlotKey (HasKey new)) (slots_told bodies old.slots.items) (pair_told bodies p) here
          (indexed_more (HasKey old) (HasKey new) (slots_told bodies old.slots.items) more kept.indexed));
    }

-- the pair that a slot gets, if it gets one, has its key there
abbrev pub IsFound : {A : Type 0} → List (List ℕ) → BTreeSet ℕ → ℕ → Option (HeldPair A) → Type 0
IsFound bodies keys slot o = IfSome o (λ p. (print : ℕ) × HasPrint bodies p print × (contains nat_cmp keys (slot_key print slot) ≡ true))

-- the slot has another pair, or none
pub kept_set : {A : Type 0} (bodies : List (List ℕ)) (old new : HeldPairs A) (slot : ℕ) (o : Option (HeldPair A)) → new.slots.items ≡ set old.slots.items slot o → KeepsKeys old.keys new.keys
    → IsFound bodies new.keys slot o → IsKept bodies old → IsKept bodies new
kept_set {A} bodies old new slot o put more own kept =
    let tell : Option (HeldPair A) → Option Pair = option_map (pair_told bodies) in
    let told : slots_told bodies new.slots.items ≡ set (slots_told bodies old.slots.items) slot (tell o) = ap (map tell) put ∙ map-set tell old.slots.items slot o in
    record {
      numbered = subst (IsNumbered bodies) (sym put) (each_set (λ i (p : HeldPair A). p.table < length bodies) old.slots.items slot o (number o own) kept.numbered);
      indexed = subst (AreIndexed (HasKey new)) (sym told) (each_set (HasSlotKey (HasKey new)) (slots_told bodies old.slots.items) slot (tell o) (key o own)
          (indexed_more (HasKey old) (HasKey new) (slots_told bodies old.slots.items) more kept.indexed));
    }
  where
    number : (o : Option (HeldPair A)) → IsFound bodies new.keys slot o → IfSome o (λ p. p.table < length bodies)
    number None own = tt
    number (Some p) own = own.1.0

    key : (o : Option (HeldPair A)) → IsFound bodies new.keys slot o → IfSome (option_map (pair_told bodies) o) (HasSlotKey (HasKey new) slot)
    key None own = tt
    key (Some p) own = ap (λ n. HasKey new (slot_key n slot)) (sym own.1.1) ∙ own.2

pub few_slots : {A : Type 0} (bodies : List (List ℕ)) (pairs : HeldPairs A) → length (slots_told bodies pairs.slots.items) ≤ 18446744073709551616
few_slots bodies pairs = let long = length-map pairs.slots.items (option_map (pair_told bodies)) in omega (arith, long, pairs.slots.ok.0, pairs.slots.ok.1, pairs.slots.small)

-- a key is taken out that no pair has
pub kept_less : {A : Type 0} (bodies : List (List ℕ)) (old new : HeldPairs A) (print slot : ℕ) → new.slots.items ≡ old.slots.items → LosesKey old.keys new.keys (slot_key print slot)
    → slot < length old.slots.items → ((p : Pair) → slice_get (slots_told bodies old.slots.items) slot ≡ Some (Some p) → print_of (real_row p) ≢ print) → IsKept bodies old → IsKept bodies new
kept_less bodies old new print slot same less within other kept =
    let long = length-map old.slots.items (option_map (pair_told bodies)) in
    record {
      numbered = subst (IsNumbered bodies) (sym same) kept.numbered;
      indexed = subst (λ slots. AreIndexed (HasKey new) (slots_told bodies slots)) (sym same)
          (indexed_less (HasKey old) (HasKey new) (slots_told bodies old.slots.items) print slot (few_slots bodies old) (omega (arith, long, within)) less other kept.indexed);
    }

set_there : {X : Type 0} (xs : List X) (k : ℕ) (x : X) → k < length xs → slice_get (set xs k x) k ≡ Some x
set_there [] k x within = absurd (omega (arith, within))
set_there (y ∷ xs) zero x within = refl
set_there (y ∷ xs) (suc k) x within = set_there xs k x (omega (arith, within))

-- what is told of a slot that was set
pub told_set : {A : Type 0} (bodies : List (List ℕ)) (slots : List (Option (HeldPair A))) (k : ℕ) (o : Option (HeldPair A)) → k < length slots
    → slice_get (slots_told bodies (set slots k o)) k ≡ Some (option_map (pair_told bodies) o)
told_set bodies slots k o within =
    let long = length-map slots (option_map (pair_told bodies)) in
    ap (λ told. slice_get told k) (map-set (option_map (pair_told bodies)) slots k o) ∙ set_there (slots_told bodies slots) k (option_map (pair_told bodies) o) (omega (arith, long, within))

-- and its fingerprint is another than this one
abbrev pub IsFoundApart : {A : Type 0} → List (List ℕ) → BTreeSet ℕ → ℕ → ℕ → Option (HeldPair A) → Type 0
IsFoundApart bodies keys print slot o = IfSome o (λ p. (own : ℕ) × HasPrint bodies p own × (contains nat_cmp keys (slot_key own slot) ≡ true) × (print ≢ own))

-- the slot has another pair, or none, and the key that it had is taken out
pub kept_replaced : {A : Type 0} (bodies : List (List ℕ)) (old new : HeldPairs A) (keys : BTreeSet ℕ) (print slot : ℕ) (o : Option (HeldPair A)) → new.slots.items ≡ set old.slots.items slot o
    → KeepsKeys old.keys keys → LosesKey keys new.keys (slot_key print slot) → slot < length old.slots.items
    → IsFoundApart bodies keys print slot o → IsKept bodies old → IsKept bodies new
kept_replaced {A} bodies old new keys print slot o put more less within own kept =
    let mid : HeldPairs A = record { slots = new.slots; keys = keys } in
    let long : length new.slots.items ≡ length old.slots.items = ap length put ∙ length-set old.slots.items slot o in
    let there : slice_get (slots_told bodies new.slots.items) slot ≡ Some (option_map (pair_told bodies) o) = ap (λ slots. slice_get (slots_told bodies slots) slot) put ∙ told_set bodies old.slots.items slot o within in
    kept_less bodies mid new print slot refl less (omega (arith, long, within)) (λ p at. other o own p (same_Some (option_map (pair_told bodies) o) (Some p) (sym there ∙ at)))
    (kept_set bodies old mid slot o put more (front o own) kept)
  where
    front : (o : Option (HeldPair A)) → IsFoundApart bodies keys print slot o → IsFound bodies keys slot o
    front None own = tt
    front (Some p) own = (own.0, own.1, own.2)

    other : (o : Option (HeldPair A)) → IsFoundApart bodies keys print slot o → (p : Pair) → option_map (pair_told bodies) o ≡ Some p → print_of (real_row p) ≢ print
    other None own p told e = none-some p told
    other (Some q) own p told e = own.3 (sym e ∙ ap (λ (p : Pair). print_of (real_row p)) (sym (same_Some (pair_told bodies q) p told)) ∙ sym own.1.1)
