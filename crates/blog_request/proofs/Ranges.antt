-- The events between two positions, one by one.
use Rattle.std.proofs.Common.{◌≡◌, ℕ, ◌+◌, ◌&&◌, ◌||◌, Bool, true, false, List, [], ◌∷◌, drop, Some, None, ap, sym, ◌∙◌, inl, inr, ◌≤◌, ◌<◌}
use Rattle.std.specs.List.{list_any, list_all}
use Rattle.std.proofs.lemmas.Bool.{le-ltb, lt-ltb}
use Rattle.blog_event.specs.declared.event.Event as told
use Rattle.blog_event.specs.Event.{event_at, event_of, event_size}
use Rattle.blog_trans.specs.Places.{placed}
use Rattle.blog_source.proofs.Left.{left-first, left-ends}
use Rattle.blog_request.specs.Passing.{unit_events}

-- an event that begins below the stop, and those after it
pub first-of : (bytes : List ℕ) (stop at : ℕ) (e : told.Event) → at < stop → event_at (drop at bytes) ≡ Some (event_of e) → e.pos ≡ at → e.header.size ≡ event_size (event_of e)
    → unit_events bytes at stop ≡ placed e ∷ unit_events bytes (at + e.header.size) stop
first-of bytes stop at e below stands pos size =
    left-first bytes (Some stop) at (event_of e) (lt-ltb at stop below) stands
    ∙ (λ i. record { pos = sym pos i; event = event_of e } ∷ unit_events bytes (at + sym size i) stop)

-- no event is there
pub none-there : (bytes : List ℕ) (stop at : ℕ) → event_at (drop at bytes) ≡ None → unit_events bytes at stop ≡ []
none-there bytes stop at none = left-ends bytes (Some stop) at (inr none)

-- the stop is reached
pub none-below : (bytes : List ℕ) (stop at : ℕ) → stop ≤ at → unit_events bytes at stop ≡ []
none-below bytes stop at reached = left-ends bytes (Some stop) at (inl (le-ltb at stop reached))

-- ---- tests of each

pub any-more : {A : Type 0} (test : A → Bool) (xs : List A) (x : A) (ys : List A) (b : Bool) → list_any test xs ≡ b → xs ≡ x ∷ ys → test x ≡ false → list_any test ys ≡ b
any-more test xs x ys b left is fails = sym (ap (λ c. c || list_any test ys) fails) ∙ sym (ap (list_any test) is) ∙ left

pub any-this : {A : Type 0} (test : A → Bool) (xs : List A) (x : A) (ys : List A) (b : Bool) → list_any test xs ≡ b → xs ≡ x ∷ ys → test x ≡ true → true ≡ b
any-this test xs x ys b left is holds = sym (ap (λ c. c || list_any test ys) holds) ∙ sym (ap (list_any test) is) ∙ left

pub any-none : {A : Type 0} (test : A → Bool) (xs : List A) (b : Bool) → list_any test xs ≡ b → xs ≡ [] → false ≡ b
any-none test xs b left is = sym (ap (list_any test) is) ∙ left

pub all-more : {A : Type 0} (test : A → Bool) (xs : List A) (x : A) (ys : List A) (b : Bool) → list_all test xs ≡ b → xs ≡ x ∷ ys → test x ≡ true → list_all test ys ≡ b
all-more test xs x ys b left is holds = sym (ap (λ c. c && list_all test ys) holds) ∙ sym (ap (list_all test) is) ∙ left

pub all-this : {A : Type 0} (test : A → Bool) (xs : List A) (x : A) (ys : List A) (b : Bool) → list_all test xs ≡ b → xs ≡ x ∷ ys → test x ≡ false → false ≡ b
all-this test xs x ys b left is fails = sym (ap (λ c. c && list_all test ys) fails) ∙ sym (ap (list_all test) is) ∙ left

pub all-none : {A : Type 0} (test : A → Bool) (xs : List A) (b : Bool) → list_all test xs ≡ b → xs ≡ [] → true ≡ b
all-none test xs b left is = sym (ap (list_all test) is) ∙ left
