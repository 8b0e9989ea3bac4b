-- What a cut of the first bytes gives, and what is known where an option is Some.
use Rattle.std.proofs.Common.{◌≡◌, ℕ, Bool, true, false, cond, leb, List, ◌++◌, length, take, drop, Option, Some, None, option_and_then, option_map, refl, ap, ◌∙◌, arith, length-append, leb-true, le-leb, take-append-drop, length-take-le, take_at, drop_at}
use Rattle.std.proofs.lemmas.Option.{some_pair_parts}
use Rattle.blog_row.specs.Checks.{cut}

-- ---- options

-- None is no Some
pub none_is_not : {A P : Type 0} (x : A) → ◌≡◌ {A = Option A} None (Some x) → P
none_is_not x e = absurd (cc)

-- where the second of two steps gives y, the first gave an x
pub and_then_found : {A B : Type 0} (f : A → Option B) (o : Option A) (y : B) → option_and_then f o ≡ Some y → (x : A) × (o ≡ Some x) × (f x ≡ Some y)
and_then_found f None y e = none_is_not y e
and_then_found f (Some x) y e = (x, refl, e)

-- where a step maps to y, it gave an x
pub map_found : {A B : Type 0} (f : A → B) (o : Option A) (y : B) → option_map f o ≡ Some y → (x : A) × (o ≡ Some x) × (f x ≡ y)
map_found f None y e = none_is_not y e
map_found f (Some x) y e = (x, refl, cc)

-- a second step goes on from what the first gave
pub and_then_again : {A B : Type 0} (f : A → Option B) (o : Option A) (x : A) (y : B) → o ≡ Some x → f x ≡ Some y → option_and_then f o ≡ Some y
and_then_again f o x y e h = ap (option_and_then f) e ∙ h

-- a map goes on from what the step gave
pub map_again : {A B : Type 0} (f : A → B) (o : Option A) (x : A) (y : B) → o ≡ Some x → f x ≡ y → option_map f o ≡ Some y
map_again f o x y e h = ap (option_map f) e ∙ ap Some h

-- where the first of two steps gives nothing, nor do both
pub nothing_then : {A B : Type 0} (f : A → Option B) (o : Option A) → o ≡ None → option_and_then f o ≡ None
nothing_then f o e = ap (option_and_then f) e

-- where the first step gives x, both give what the second makes of it
pub then_of : {A B : Type 0} (f : A → Option B) (o : Option A) (x : A) → o ≡ Some x → option_and_then f o ≡ f x
then_of f o x e = ap (option_and_then f) e

-- ---- cuts

-- the first n bytes, and the others
pub cut_found : (n : ℕ) (bytes a b : List ℕ) → cut n bytes ≡ Some (a, b) → (length a ≡ n) × (bytes ≡ a ++ b)
cut_found n bytes a b = by_case (leb n (length bytes)) refl
  where
    by_case : (t : Bool) → leb n (length bytes) ≡ t → cond {A = Option (List ℕ × List ℕ)} t (Some (take n bytes, drop n bytes)) None ≡ Some (a, b) → (length a ≡ n) × (bytes ≡ a ++ b)
    by_case true e h =
        let s : (take n bytes ≡ a) × (drop n bytes ≡ b) = some_pair_parts (take n bytes) a (drop n bytes) b h in
        let l : length (take n bytes) ≡ n = length-take-le n bytes (leb-true n (length bytes) e) in
        let j : take n bytes ++ drop n bytes ≡ bytes = take-append-drop n bytes in
        (cc, cc)
    by_case false e h = none_is_not (a, b) h

-- n bytes in front are cut off, whatever follows
pub cut_again : (n : ℕ) (first rest : List ℕ) → length first ≡ n → cut n (first ++ rest) ≡ Some (first, rest)
cut_again n first rest l =
    let within : leb n (length (first ++ rest)) ≡ true = le-leb n (length (first ++ rest)) (omega (arith, length-append first rest)) in
    let front : take n (first ++ rest) ≡ first = take_at first rest n l in
    let behind : drop n (first ++ rest) ≡ rest = drop_at first rest n l in
    rw (within, front, behind)
