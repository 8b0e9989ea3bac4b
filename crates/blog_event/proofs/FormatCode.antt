-- How the format description is read.
use Rattle.std.proofs.Common.{◌≡◌, ℕ, ◌+◌, Bool, true, false, cond, List, [], ◌∷◌, length, take, Option, Some, None, refl, sym, subst, ap, ◌∙◌, inl, inr, arith}
use Rattle.std.specs.Prelude.{◌==◌, not, nat_lt}
use Rattle.std.specs.List.{position, position_or_len}
use Rattle.std.specs.Option.{MatchOption}
use Rattle.std.proofs.lemmas.Bool.{cases_lt}
use Rattle.std.proofs.lemmas.Bool.Decides.{nat_tests}
use Rattle.std.proofs.lemmas.List.{take_all}
use Rattle.std.proofs.Math.Numerals.{one-add}
use Rattle.std.proofs.lemmas.Option.{none-some}
use Rattle.blog_event.specs.declared.fault.Fault.TheVariants.{Checksums}
use Rattle.blog_event.specs.Fault.{Cause, needs, first_failing, fault_at}
use Rattle.blog_event.specs.Event.{Event}
use Rattle.blog_event.specs.Format.{Version, front_while, ◌>>=◌, algorithm, description_fault, format_fault}

-- ---- the front of a list

-- one more element in front
front-while-more : {A : Type 0} (first : Bool) (x : A) (xs ys : List A) (n : ℕ) → take n xs ≡ ys → take (cond first (1 + n) 0) (x ∷ xs) ≡ cond first (x ∷ ys) []
front-while-more true x xs ys n h = rw (one-add n) (ap (λ zs. x ∷ zs) h)
front-while-more false x xs ys n h = refl

-- the elements in front of the first that passes a test are those in front of the first that fails the opposite one
pub front-while-take : {A : Type 0} (test stops : A → Bool) → ((x : A) → not (stops x) ≡ test x) → (xs : List A) → take (position_or_len stops xs) xs ≡ front_while test xs
front-while-take test stops opposite [] = refl
front-while-take test stops opposite (x ∷ xs) =
    let here = opposite x in
    let later = front-while-take test stops opposite xs in
    rw here (front-while-more (test x) x xs (front_while test xs) (position_or_len stops xs) later)

-- of two numbers of elements: one within a list is found, and else all are meant
found-cases : {A : Type 0} (n : ℕ) (xs ys : List A) → take n xs ≡ ys
    → MatchOption (cond (nat_lt n (length xs)) (Some n) None) (xs ≡ ys) (λ end. take end xs ≡ ys)
found-cases n xs ys h = elim (cases_lt n (length xs)) [
  | inl within ↦ let test : nat_lt n (length xs) ≡ true = grind (arith, nat_tests) in rw test h
  | inr past ↦
      let test : nat_lt n (length xs) ≡ false = grind (arith, nat_tests) in
      rw test (sym (take_all n xs past) ∙ h)
]

-- twice not
pub not-not : (b : Bool) → not (not b) ≡ b
not-not true = refl
not-not false = refl

-- what a search for the first that stops finds
pub front-while-position : {A : Type 0} (test stops : A → Bool) → ((x : A) → not (stops x) ≡ test x) → (xs : List A) (found : Option ℕ) → found ≡ position stops xs
    → MatchOption found (xs ≡ front_while test xs) (λ end. take end xs ≡ front_while test xs)
front-while-position test stops opposite xs found h =
    let P : Option ℕ → Type 0 = λ found. MatchOption found (xs ≡ front_while test xs) (λ end. take end xs ≡ front_while test xs) in
    subst P (sym h) (found-cases (position_or_len stops xs) xs (front_while test xs) (front-while-take test stops opposite xs))

-- ---- the server version

-- the steps of a version, with any readers
abbrev joined : (List ℕ → Option (ℕ × List ℕ)) → (List ℕ → Option (List ℕ)) → List ℕ → Option Version
joined number point text =
    number text >>= (λ major. point major.1 >>= (λ first. number first >>= (λ minor. point minor.1 >>= (λ second. number second >>= (λ patch.
    Some (record { major = major.0; minor = minor.0; patch = patch.0 }))))))

-- ---- the checks

second-decides : (first second : Option Cause) → fault_at 4 first ≡ None → first_failing (first ∷ second ∷ []) ≡ second
second-decides None None holds = refl
second-decides None (Some cause) holds = refl
second-decides (Some cause) second holds = absurd (none-some (cause 4) (sym holds))

-- of one that isn't, the algorithm
pub format-by-algorithm : (e : Event) → fault_at 4 (description_fault e) ≡ None → format_fault e ≡ needs (algorithm e.body == 0) Checksums
unfolding format_fault
format-by-algorithm e holds = second-decides (description_fault e) (needs (algorithm e.body == 0) Checksums) holds
