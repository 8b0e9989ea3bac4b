-- Asking of values in turn whether a test holds of them.
use Rattle.std.proofs.Common.{◌≡◌, ℕ, zero, suc, arith, ◌+◌, ◌<◌, Bool, true, false, refl, ◌&&◌, List, [], ◌∷◌, length, map, take, Some, get_or, sym, ap, ap₂, ◌∙◌}
use Rattle.std.specs.Prelude.{is_some, option_map, slice_get}
use Rattle.std.specs.List.{list_all}
use Rattle.std.proofs.lemmas.Bool.{false≢true}
use Rattle.std.proofs.lemmas.List.{map_more, take-map, take_more}
use Rattle.std.proofs.lemmas.List.Folds.{list_all-append}
use Rattle.std.proofs.lemmas.Option.{same_Some, slice_get-get_or, slice_get-map, slice_get_past}
use Rattle.blog_request.specs.Ids.{Ids}
use Rattle.blog_trans.specs.Selection.{Selection}
use Rattle.undo_run.specs.Units.{IsMissing, IsWithout, are_found, has_unit_at, has_unit_with, have_units}

pub value-at : {A B : Type 0} (f : A → B) (xs : List A) (n : ℕ) (d : A) → n < length xs → slice_get (map f xs) n ≡ Some (f (get_or xs n d))
value-at f xs n d below = slice_get-map f xs n ∙ ap (option_map f) (slice_get-get_or xs n d below)

pub holds-next : {A B : Type 0} (test : B → Bool) (f : A → B) (xs : List A) (n : ℕ) (d : A) → n < length xs → list_all test (take n (map f xs)) ≡ true → test (f (get_or xs n d)) ≡ true → list_all test (take (n + 1) (map f xs)) ≡ true
holds-next test f xs n d below all here =
    ap (list_all test) (take-map f (n + 1) xs ∙ map_more f xs n d below) ∙ list_all-append test (map f (take n xs)) (f (get_or xs n d) ∷ [])
    ∙ ap₂ (λ (a b : Bool). a && (b && true)) (ap (list_all test) (sym (take-map f n xs)) ∙ all) here

pub holds-more : {A : Type 0} (test : A → Bool) (xs : List A) (n : ℕ) (d : A) → n < length xs → list_all test (take n xs) ≡ true → test (get_or xs n d) ≡ true → list_all test (take (n + 1) xs) ≡ true
holds-more test xs n d below all here =
    ap (list_all test) (take_more xs n d below) ∙ list_all-append test (take n xs) (get_or xs n d ∷ []) ∙ ap₂ (λ (a b : Bool). a && (b && true)) all here

-- one that isn't found, so they aren't all
and-no : (b : Bool) → (b && false) ≡ false
and-no true = refl
and-no false = refl

not-all : {A : Type 0} (test : A → Bool) (xs : List A) (n : ℕ) (x : A) → slice_get xs n ≡ Some x → test x ≡ false → list_all test xs ≡ false
not-all test [] n x at fails = absurd (false≢true (ap is_some (sym (slice_get_past [] n (omega arith)) ∙ at)))
not-all test (y ∷ xs) zero x at fails = ap (λ (b : Bool). b && list_all test xs) (ap test (same_Some y x at) ∙ fails)
not-all test (y ∷ xs) (suc n) x at fails = ap (λ (b : Bool). test y && b) (not-all test xs n x at fails) ∙ and-no (test y)

pub missing-not-found : (asked : List Ids) (sel : Selection) (handed : List ℕ) (n : ℕ) → IsMissing asked sel handed n → are_found asked sel handed ≡ false
missing-not-found asked sel handed n (before, (ids, at, fails)) = not-all (λ (i : Ids). has_unit_with i sel handed) asked n ids at fails

pub without-units : (asked : List ℕ) (sel : Selection) (handed : List ℕ) (end place : ℕ) → IsWithout asked sel handed end place → have_units asked sel handed end ≡ false
without-units asked sel handed end place (n, before, at, fails) = not-all (has_unit_at sel handed end) asked n place at fails
