-- What holds of what is in each slot.
use Rattle.std.proofs.Common.{◌≡◌, ℕ, zero, suc, List, [], ◌∷◌, ◌++◌, length, set, slice_get, Option, Some, None, inl, inr, refl, sym, ap, subst}
use Rattle.std.specs.Prelude.{◌⊎◌, IfSome}
use Rattle.std.proofs.lemmas.Option.{none-some, same_Some}
use Rattle.blog_pairs.specs.Places.{EachSlot, present}

at_set : {X : Type 0} (xs : List (Option X)) (k : ℕ) (o : Option X) (i : ℕ) (x : X) → slice_get (set xs k o) i ≡ Some (Some x) → ((i ≡ k) × (o ≡ Some x)) ⊎ (slice_get xs i ≡ Some (Some x))
at_set [] k o i x e = inr e
at_set (y ∷ xs) zero o zero x e = inl (refl, same_Some o (Some x) e)
at_set (y ∷ xs) zero o (suc i) x e = inr e
at_set (y ∷ xs) (suc k) o zero x e = inr e
at_set {X} (y ∷ xs) (suc k) o (suc i) x e = next (at_set xs k o i x e)
  where
    next : ((i ≡ k) × (o ≡ Some x)) ⊎ (slice_get xs i ≡ Some (Some x)) → ((suc i ≡ suc k) × (o ≡ Some x)) ⊎ (slice_get (y ∷ xs) (suc i) ≡ Some (Some x))
    next (inl h) = inl (ap suc h.0, h.1)
    next (inr h) = inr h

at_more : {X : Type 0} (xs : List (Option X)) (y : X) (i : ℕ) (x : X) → slice_get (xs ++ Some y ∷ []) i ≡ Some (Some x) → ((i ≡ length xs) × (y ≡ x)) ⊎ (slice_get xs i ≡ Some (Some x))
at_more [] y zero x e = inl (refl, same_Some y x (same_Some (Some y) (Some x) e))
at_more [] y (suc i) x e = absurd (none-some (Some x) e)
at_more (z ∷ xs) y zero x e = inr e
at_more {X} (z ∷ xs) y (suc i) x e = next (at_more xs y i x e)
  where
    next : ((i ≡ length xs) × (y ≡ x)) ⊎ (slice_get xs i ≡ Some (Some x)) → ((suc i ≡ length (z ∷ xs)) × (y ≡ x)) ⊎ (slice_get (z ∷ xs) (suc i) ≡ Some (Some x))
    next (inl h) = inl (ap suc h.0, h.1)
    next (inr h) = inr h

-- one slot has something else, or nothing
pub each_set : {X : Type 0} (P : ℕ → X → Type 0) (xs : List (Option X)) (k : ℕ) (o : Option X) → IfSome o (P k) → EachSlot P xs → EachSlot P (set xs k o)
each_set {X} P xs k o new each i x e = by_case (at_set xs k o i x e)
  where
    by_case : ((i ≡ k) × (o ≡ Some x)) ⊎ (slice_get xs i ≡ Some (Some x)) → P i x
    by_case (inl h) = subst (λ (j : ℕ). P j x) (sym h.0) (subst (λ (o : Option X). IfSome o (P k)) h.1 new)
    by_case (inr h) = each i x h

-- one more slot
pub each_more : {X : Type 0} (P : ℕ → X → Type 0) (xs : List (Option X)) (y : X) → P (length xs) y → EachSlot P xs → EachSlot P (xs ++ Some y ∷ [])
each_more {X} P xs y new each i x e = by_case (at_more xs y i x e)
  where
    by_case : ((i ≡ length xs) × (y ≡ x)) ⊎ (slice_get xs i ≡ Some (Some x)) → P i x
    by_case (inl h) = subst (λ (j : ℕ). P j x) (sym h.0) (subst (P (length xs)) h.1 new)
    by_case (inr h) = each i x h

pub present-append : {X : Type 0} (xs ys : List (Option X)) → present (xs ++ ys) ≡ present xs ++ present ys
present-append [] ys = refl
present-append (None ∷ xs) ys = present-append xs ys
present-append (Some x ∷ xs) ys = ap (λ zs. x ∷ zs) (present-append xs ys)
