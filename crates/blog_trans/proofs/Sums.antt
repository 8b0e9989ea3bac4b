-- Sums over lists.
use Rattle.std.proofs.Common.{◌≡◌, ℕ, ◌+◌, ◌≤◌, Bool, List, [], ◌∷◌, ◌++◌, length, map, filter, reverse, refl, ap, ap₂, ◌∙◌, arith}
use Rattle.std.specs.List.{flat_map}
use Rattle.std.proofs.lemmas.List.{reverse-append}

-- the sum of a number of each element
abbrev pub sum_of : {A : Type 0} → (A → ℕ) → List A → ℕ
sum_of f [] = 0
sum_of f (x ∷ xs) = f x + sum_of f xs

-- of two lists
pub sum-append : {A : Type 0} (f : A → ℕ) (xs ys : List A) → sum_of f (xs ++ ys) ≡ sum_of f xs + sum_of f ys
sum-append f [] ys = omega arith
sum-append f (x ∷ xs) ys = let others = sum-append f xs ys in omega arith

-- of the elements that a map gives
pub sum-map : {A B : Type 0} (f : B → ℕ) (g : A → B) (xs : List A) → sum_of f (map g xs) ≡ sum_of (λ x. f (g x)) xs
sum-map f g [] = refl
sum-map f g (x ∷ xs) = ap (λ (n : ℕ). f (g x) + n) (sum-map f g xs)

-- of lists that are joined, by the sum of each
pub sum-joined : {A B : Type 0} (f : B → ℕ) (g : A → List B) (h : A → ℕ) → ((x : A) → sum_of f (g x) ≡ h x) → (xs : List A) → sum_of f (flat_map g xs) ≡ sum_of h xs
sum-joined f g h each [] = refl
sum-joined f g h each (x ∷ xs) = sum-append f (g x) (flat_map g xs) ∙ ap₂ ◌+◌ (each x) (sum-joined f g h each xs)

-- a filter adds nothing
pub sum-filter : {A : Type 0} (f : A → ℕ) (test : A → Bool) (xs : List A) → sum_of f (filter test xs) ≤ sum_of f xs
sum-filter f test [] = omega arith
sum-filter f test (x ∷ xs) = let others = sum-filter f test xs in grind arith

-- the order doesn't matter
pub sum-reverse : {A : Type 0} (f : A → ℕ) (xs : List A) → sum_of f (reverse xs) ≡ sum_of f xs
sum-reverse f [] = refl
sum-reverse f (x ∷ xs) = ap (sum_of f) (reverse-append (x ∷ []) xs) ∙ sum-append f (reverse xs) (x ∷ []) ∙ (let others = sum-reverse f xs in omega arith)

-- with one for each element it is the length
pub sum-ones : {A : Type 0} (xs : List A) → sum_of (λ (x : A). 1) xs ≡ length xs
sum-ones [] = refl
sum-ones (x ∷ xs) = let others = sum-ones xs in omega arith
