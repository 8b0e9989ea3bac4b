-- Places in a list: the first that passes a test, and whether any does.
use Rattle.std.proofs.Common.{◌≡◌, ℕ, ◌-◌, Bool, true, false, cond, List, [], ◌∷◌, length, take, drop, Option, Some, None, refl, sym, ap, subst, ◌∙◌, inl, inr, arith}
use Rattle.std.specs.Prelude.{◌==◌, nat_lt, map}
use Rattle.std.specs.List.{position, position_or_len, list_any}
use Rattle.std.specs.Option.{MatchOption}
use Rattle.blog_choice.specs.Choice.{is_nil}
use Rattle.std.proofs.lemmas.Bool.{cases_lt}
use Rattle.std.proofs.lemmas.Bool.Decides.{nat_tests}
use Rattle.std.proofs.lemmas.List.{take_all, drop_all, take_rest}

-- what a place that is found, or none, says of the parts before and after it
abbrev IsParted : ℕ → List ℕ → Option ℕ → Type 0
IsParted n xs found = MatchOption found ((take n xs ≡ xs) × (drop n xs ≡ [])) (λ place. place ≡ n)

parted-cases : (n : ℕ) (xs : List ℕ) → IsParted n xs (cond (nat_lt n (length xs)) (Some n) None)
parted-cases n xs = elim (cases_lt n (length xs)) [
  | inl within ↦ let test : nat_lt n (length xs) ≡ true = grind (arith, nat_tests) in rw test refl
  | inr past ↦ let test : nat_lt n (length xs) ≡ false = grind (arith, nat_tests) in rw test (take_all n xs past, drop_all n xs past)
]

pub position-parts : (test : ℕ → Bool) (xs : List ℕ) (found : Option ℕ) → found ≡ position test xs → IsParted (position_or_len test xs) xs found
position-parts test xs found h = subst (IsParted (position_or_len test xs) xs) (sym h) (parted-cases (position_or_len test xs) xs)

-- the part from a place that is found, and the part before it
pub found-end : (test : ℕ → Bool) (xs : List ℕ) (place : ℕ) → Some place ≡ position test xs → take (length xs - place) (drop place xs) ≡ drop (position_or_len test xs) xs
found-end test xs place h = take_rest xs place ∙ ap (λ n. drop n xs) (position-parts test xs (Some place) h)

pub found-front : (test : ℕ → Bool) (xs : List ℕ) (place : ℕ) → Some place ≡ position test xs → take place xs ≡ take (position_or_len test xs) xs
found-front test xs place h = ap (λ n. take n xs) (position-parts test xs (Some place) h)

pub none-end : (test : ℕ → Bool) (xs : List ℕ) → None ≡ position test xs → [] ≡ drop (position_or_len test xs) xs
none-end test xs h = sym (position-parts test xs None h).1

pub none-front : (test : ℕ → Bool) (xs : List ℕ) → None ≡ position test xs → xs ≡ take (position_or_len test xs) xs
none-front test xs h = sym (position-parts test xs None h).0

-- a test of what a list is mapped to
pub list_any-map : {A B : Type 0} (test : B → Bool) (f : A → B) (xs : List A) → list_any test (map f xs) ≡ list_any (λ x. test (f x)) xs
list_any-map test f [] = refl
list_any-map test f (x ∷ xs) = rw (list_any-map test f xs) refl

-- a list whose length isn't 0 has an element
pub nil-by-length : (xs : List ℕ) (b : Bool) → b ≡ (length xs == 0) → b ≡ false → is_nil xs ≡ false
nil-by-length [] b h fails = sym h ∙ fails
nil-by-length (x ∷ xs) b h fails = refl
