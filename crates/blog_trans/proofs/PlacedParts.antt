-- What holds of each of some events holds of those of their spans and statements.
use Rattle.std.proofs.Common.{rules, ◌≡◌, ℕ, zero, suc, Bool, true, ◌||◌, List, [], ◌∷◌, map, filter, find, flat_map, Option, Some, refl, ap, subst, arith}
use Rattle.std.specs.List.{AllByRecursion, filter_map, slice_get, list_any}
use Rattle.std.proofs.lemmas.Option.{none-some, same_Some}
use Rattle.blog_event.specs.File.{Placed}
use Rattle.blog_event.specs.Format.{front_while}
use Rattle.blog_row.proofs.ReversedRows.{all-append}
use Rattle.blog_trans.specs.Places.{is_begin, is_end}
use Rattle.blog_trans.specs.Groups.{Span, spans, onto_first, statements_of}

-- ---- lists

-- what follows for each element
pub all-by : {A : Type 0} (P Q : A → Type 0) → ((x : A) → P x → Q x) → (xs : List A) → AllByRecursion P xs → AllByRecursion Q xs
all-by P Q by [] all = tt
all-by P Q by (x ∷ xs) all = (by x all.0, all-by P Q by xs all.1)

-- of two facts both
pub all-both : {A : Type 0} (P Q : A → Type 0) (xs : List A) → AllByRecursion P xs → AllByRecursion Q xs → AllByRecursion (λ x. P x × Q x) xs
all-both P Q [] first second = tt
all-both P Q (x ∷ xs) first second = ((first.0, second.0), all-both P Q xs first.1 second.1)

-- of the elements of a map
pub all-map : {A B : Type 0} (P : A → Type 0) (Q : B → Type 0) (f : A → B) → ((x : A) → P x → Q (f x)) → (xs : List A) → AllByRecursion P xs → AllByRecursion Q (map f xs)
all-map P Q f by [] all = tt
all-map P Q f by (x ∷ xs) all = (by x all.0, all-map P Q f by xs all.1)

-- of the elements of lists that are joined
pub all-joined : {A B : Type 0} (P : A → Type 0) (Q : B → Type 0) (f : A → List B) → ((x : A) → P x → AllByRecursion Q (f x)) → (xs : List A) → AllByRecursion P xs → AllByRecursion Q (flat_map f xs)
all-joined P Q f by [] all = tt
all-joined P Q f by (x ∷ xs) all = all-append Q (f x) (flat_map f xs) (by x all.0) (all-joined P Q f by xs all.1)

-- of the elements that pass a test, and the test too
pub all-filter : {A : Type 0} (P : A → Type 0) (test : A → Bool) (xs : List A) → AllByRecursion P xs → AllByRecursion (λ x. P x × (test x ≡ true)) (filter test xs)
all-filter P test [] all = tt
all-filter P test (x ∷ xs) all = let others = all-filter P test xs all.1 in grind arith

-- of those in front of the first that fails a test
pub all-while : {A : Type 0} (P : A → Type 0) (test : A → Bool) (xs : List A) → AllByRecursion P xs → AllByRecursion P (front_while test xs)
all-while P test [] all = tt
all-while P test (x ∷ xs) all = let others = all-while P test xs all.1 in grind arith

-- of the first that passes it
pub all-found : {A : Type 0} (P : A → Type 0) (test : A → Bool) (xs : List A) (y : A) → AllByRecursion P xs → find test xs ≡ Some y → P y × (test y ≡ true)
all-found P test [] y all e = absurd (none-some y e)
all-found P test (x ∷ xs) y all e = let others = all-found P test xs y all.1 in grind arith

-- of all that a function gives of them
pub all-given : {A B : Type 0} (P : A → Type 0) (Q : B → Type 0) (f : A → Option B) → ((x : A) (y : B) → P x → f x ≡ Some y → Q y) → (xs : List A) → AllByRecursion P xs → AllByRecursion Q (filter_map f xs)
all-given P Q f by [] all = tt
all-given P Q f by (x ∷ xs) all = let others = all-given P Q f by xs all.1 in let own : (y : _) → f x ≡ Some y → Q y = λ y. by x y all.0 in grind arith

-- of the one at a place
pub all-at : {A : Type 0} (P : A → Type 0) (xs : List A) (k : ℕ) (x : A) → AllByRecursion P xs → slice_get xs k ≡ Some x → P x
all-at P [] k x all e = absurd (none-some x e)
all-at P (y ∷ xs) zero x all e = subst P (same_Some y x e) all.0
all-at P (y ∷ xs) (suc k) x all e = all-at P xs k x all.1 e

-- whether some element of a map passes a test
pub any-map : {A B : Type 0} (f : A → B) (test : B → Bool) (xs : List A) → list_any test (map f xs) ≡ list_any (λ x. test (f x)) xs
any-map f test [] = refl
any-map f test (x ∷ xs) = ap (λ b. test (f x) || b) (any-map f test xs)

-- ---- spans and statements

-- a span of such events
pub record IsSpanOf (P : Placed → Type 0) (s : Span) : Type 0 where
  pub begin : P s.begin
  pub begin_is : is_begin s.begin ≡ true
  pub inside : AllByRecursion P s.inside
  pub end : P s.end
  pub end_is : is_end s.end ≡ true

-- the spans of such events
pub spans-all : (P : Placed → Type 0) (ps : List Placed) → AllByRecursion P ps → AllByRecursion (IsSpanOf P) (spans ps)
spans-all P [] all = tt
spans-all P (p ∷ ps) all = grind (arith, spans-all P ps all.1, all-found, all-while)

-- one more event of the first statement
onto-first-all : (P : Placed → Type 0) (p : Placed) (ss : List (List Placed)) → P p → AllByRecursion (AllByRecursion P) ss → AllByRecursion (AllByRecursion P) (onto_first p ss)
onto-first-all P p ss own all = search rules

-- the statements of such events
pub statements-all : (P : Placed → Type 0) (ps : List Placed) → AllByRecursion P ps → AllByRecursion (AllByRecursion P) (statements_of ps)
statements-all P [] all = tt
statements-all P (p ∷ ps) all = let others = statements-all P ps all.1 in let joined = onto-first-all P p (statements_of ps) all.0 others in grind arith
