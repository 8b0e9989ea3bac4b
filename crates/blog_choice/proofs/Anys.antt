-- Lists of which some element passes a test.
use Rattle.std.proofs.Common.{◌≡◌, Bool, true, false, List, [], ◌∷◌, Option, Some, None, refl, sym, ap, ◌∙◌}
use Rattle.std.specs.Prelude.{◌&&◌, ◌||◌, filter_map}
use Rattle.std.specs.Option.{option_map_or}
use Rattle.std.specs.List.{list_any}

-- two tests of which each follows from the other
pub same-test : (a b : Bool) → (a ≡ true → b ≡ true) → (b ≡ true → a ≡ true) → a ≡ b
same-test true b to from = sym (to refl)
same-test false true to from = from refl
same-test false false to from = refl

-- tests that are the same for each element
pub any-same : {A : Type 0} (one other : A → Bool) → ((x : A) → one x ≡ other x) → (xs : List A) → list_any one xs ≡ list_any other xs
any-same one other same [] = refl
any-same one other same (x ∷ xs) = rw (same x, any-same one other same xs) refl

or-swapped : (a b c d : Bool) → ((a || b) || (c || d)) ≡ ((a || c) || (b || d))
or-swapped true b true d = refl
or-swapped true b false d = refl
or-swapped false true true d = refl
or-swapped false true false d = refl
or-swapped false false c d = refl

-- one of two tests
pub any-or : {A : Type 0} (one other : A → Bool) (xs : List A) → list_any (λ x. one x || other x) xs ≡ (list_any one xs || list_any other xs)
any-or one other [] = refl
any-or one other (x ∷ xs) = ap (λ (more : Bool). (one x || other x) || more) (any-or one other xs) ∙ or-swapped (one x) (other x) (list_any one xs) (list_any other xs)

-- a test that always fails
pub any-false : {A : Type 0} (xs : List A) → list_any (λ _. false) xs ≡ false
any-false [] = refl
any-false (x ∷ xs) = any-false xs

fails : (a : Bool) → (a && false) ≡ false
fails true = refl
fails false = refl

-- a test that is the same for each element
pub any-and : {A : Type 0} (always : Bool) (test : A → Bool) (xs : List A) → list_any (λ x. test x && always) xs ≡ (always && list_any test xs)
any-and always test [] = empty always
  where
    empty : (b : Bool) → false ≡ (b && false)
    empty true = refl
    empty false = refl
any-and true test (x ∷ xs) = ap (λ (more : Bool). (test x && true) || more) (any-and true test xs) ∙ kept (test x)
  where
    kept : (b : Bool) → ((b && true) || (list_any test xs)) ≡ (b || list_any test xs)
    kept true = refl
    kept false = refl
any-and false test (x ∷ xs) = ap (λ (first : Bool). first || list_any (λ y. test y && false) xs) (fails (test x)) ∙ any-and false test xs

-- tests of pairs, whichever list comes first
pub any-swapped : {A B : Type 0} (test : A → B → Bool) (xs : List A) (ys : List B) → list_any (λ x. list_any (test x) ys) xs ≡ list_any (λ y. list_any (λ x. test x y) xs) ys
any-swapped test [] ys = sym (any-false ys)
any-swapped test (x ∷ xs) ys = ap (λ (more : Bool). list_any (test x) ys || more) (any-swapped test xs ys) ∙ sym (any-or (test x) (λ y. list_any (λ z. test z y) xs) ys)

-- a test of what is given of each element, where something is
pub any-given : {A B : Type 0} (test : B → Bool) (f : A → Option B) (xs : List A) → list_any (λ x. option_map_or test (f x) false) xs ≡ list_any test (filter_map f xs)
any-given test f [] = refl
any-given {B = B} test f (x ∷ xs) = by_case (f x) refl (any-given test f xs)
  where
    by_case : (o : Option B) → f x ≡ o → list_any (λ y. option_map_or test (f y) false) xs ≡ list_any test (filter_map f xs)
        → list_any (λ y. option_map_or test (f y) false) (x ∷ xs) ≡ list_any test (filter_map f (x ∷ xs))
    by_case None e more = rw (e, more) refl
    by_case (Some y) e more = rw (e, more) refl

-- a test that comes first and is the same for each element
pub any-first : {A : Type 0} (always : Bool) (test : A → Bool) (xs : List A) → list_any (λ x. always && test x) xs ≡ (always && list_any test xs)
any-first true test xs = refl
any-first false test xs = any-false xs

-- one of two, by the first
pub or-true : (a b : Bool) → a ≡ true → (a || b) ≡ true
or-true a b h = ap (λ (c : Bool). c || b) h

pub or-false : (a b : Bool) → a ≡ false → (a || b) ≡ b
or-false a b h = ap (λ (c : Bool). c || b) h

-- both of two, by the first
pub and-true : (a b : Bool) → a ≡ true → (a && b) ≡ b
and-true a b h = ap (λ (c : Bool). c && b) h

pub and-false : (a b : Bool) → a ≡ false → (a && b) ≡ false
and-false a b h = ap (λ (c : Bool). c && b) h
