-- Asking one after the other whether a test holds of it.
use Rattle.std.proofs.Common.{◌≡◌, ℕ, ◌+◌, ◌||◌, Bool, true, false, List, drop, Some, ap, sym, ◌∙◌}
use Rattle.std.specs.Prelude.{slice_get}
use Rattle.std.specs.List.{list_any}
use Rattle.blog_trans.proofs.Turns.{drop-at}

-- of those that are left it holds of the first one or of a later one
pub next : {A : Type 0} (test : A → Bool) (xs : List A) (n : ℕ) (x : A) → slice_get xs n ≡ Some x
    → list_any test (drop n xs) ≡ (test x || list_any test (drop (n + 1) xs))
next test xs n x is = ap (list_any test) (drop-at xs n x is)

pub not-this : {A : Type 0} (test : A → Bool) (xs : List A) (n : ℕ) (x : A) (b : Bool) → list_any test (drop n xs) ≡ b → slice_get xs n ≡ Some x
    → test x ≡ false → list_any test (drop (n + 1) xs) ≡ b
not-this test xs n x b left is fails = sym (ap (λ c. c || list_any test (drop (n + 1) xs)) fails) ∙ sym (next test xs n x is) ∙ left

pub this-one : {A : Type 0} (test : A → Bool) (xs : List A) (n : ℕ) (x : A) (b : Bool) → list_any test (drop n xs) ≡ b → slice_get xs n ≡ Some x
    → test x ≡ true → true ≡ b
this-one test xs n x b left is holds = sym (ap (λ c. c || list_any test (drop (n + 1) xs)) holds) ∙ sym (next test xs n x is) ∙ left
