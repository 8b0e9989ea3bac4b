-- Events of groups in turn: what comes first of what is left, and what is left behind it.
use Rattle.std.proofs.Common.{◌≡◌, ◌≢◌, ℕ, ◌+◌, ◌<◌, ◌≤◌, Bool, true, false, List, [], ◌∷◌, length, take, drop, Option, Some, IsSome, is_some, option_map, sym, ap, subst, ◌∙◌, arith}
use Rattle.std.specs.Prelude.{option_and_then, slice_get}
use Rattle.std.proofs.lemmas.List.{drop_all, length-drop, length-take, length-take-le, length-reverse, reverse-append, get_or-take}
use Rattle.std.proofs.lemmas.Option.{slice_get_within, slice_get-get_or, get_or_from_slice_get}
use Rattle.std.proofs.Math.Seq.{drop-cons, take-length}
use Rattle.indexmap.proofs.DrainLemmas.{drop_end}
use Rattle.blog_row.specs.declared.order.Order.{Order}
use Rattle.blog_row.specs.declared.order.Order.TheVariants.{Forward, Backward}
use Rattle.std.specs.declared.ops.Range.{Range}
use Rattle.blog_trans.specs.Groups.{PlacedRows}
use Rattle.blog_trans.specs.code.InTurn.{Changes, TakesNumber, in_order, rows_in_turn}
use Rattle.blog_trans.specs.code.GroupEventsView.{IsTaken, IsTurn, among}
use Rattle.blog_trans.specs.declared.group_events.GroupEvents.{GroupEvents}
use Rattle.blog_trans.specs.declared.group_events.Turn.{Turn}
use Rattle.std.specs.Option.{option_map_or}
use Rattle.blog_trans.proofs.EntriesFound.{take_next, inner, counted}
use Rattle.blog_trans.proofs.IndexFacts.{found, some_found}

-- ---- numbers that are left

slice-take : {A : Type 0} (xs : List A) (i n : ℕ) (x : A) → i < n → slice_get xs i ≡ Some x → slice_get (take n xs) i ≡ Some x
slice-take xs i n x within here =
    slice_get-get_or (take n xs) i x (omega (arith, length-take n xs, slice_get_within xs i x here)) ∙ ap Some (get_or-take n xs i x within ∙ get_or_from_slice_get xs i x x here)

pub drop-at : {A : Type 0} (xs : List A) (i : ℕ) (x : A) → slice_get xs i ≡ Some x → drop i xs ≡ x ∷ drop (i + 1) xs
drop-at xs i x is = grind (arith, drop-cons xs i x, slice_get_within, get_or_from_slice_get xs i x x is)

-- the one that comes first in an order, and those behind it
pub first-taken : {A : Type 0} (order : Order) (xs : List A) (before : Range ℕ) (n : ℕ) (after : Range ℕ) (x : A) → TakesNumber order before n after → before.start < before.end
    → slice_get xs n ≡ Some x → in_order order (among before xs) ≡ x ∷ in_order order (among after xs)
first-taken Forward xs before n after x (is, start, end) some here =
    grind (arith, slice-take xs before.start before.end x, drop-at (take before.end xs) before.start x)
first-taken Backward xs before n after x (is, start, end) some here =
    let long = length-take-le n xs (omega (arith, slice_get_within xs n x here)) in
    grind (arith, take_next xs n x here, drop_end (take n xs) x before.start, reverse-append (drop before.start (take n xs)) (x ∷ []))

-- it is one of them, and the first of those behind it is too
pub taken-among : (order : Order) (before : Range ℕ) (n : ℕ) (after : Range ℕ) → TakesNumber order before n after → before.start < before.end
    → (before.start ≤ n) × (n < before.end) × (before.start ≤ after.start) × (after.end ≤ before.end)
taken-among order before n after takes some = grind arith

-- no more than there are numbers
pub none-among : {A : Type 0} (numbers : Range ℕ) (xs : List A) → numbers.end ≤ numbers.start → among numbers xs ≡ []
none-among numbers xs none = drop_all numbers.start (take numbers.end xs) (let short = length-take numbers.end xs in omega (arith, short))

pub none-in-order : {A : Type 0} (order : Order) (numbers : Range ℕ) (xs : List A) → numbers.end ≤ numbers.start → in_order order (among numbers xs) ≡ []
none-in-order order numbers xs none = grind (arith, none-among)

-- one below their number is there
pub one-below : {A B : Type 0} (f : A → List B) (o : Option A) (n m : ℕ) → option_map (λ x. length (f x)) o ≡ Some n → m < n → IsSome (option_and_then (λ x. slice_get (f x) m) o)
one-below f o n m long below = ap is_some (inner f o m ∙ (found (option_map_or f o []) m (omega (arith, counted f o n long, below))).1)

-- all of them
pub all-among : {A : Type 0} (xs : List A) (n : ℕ) → length xs ≡ n → among (record { start = 0; end = n }) xs ≡ xs
all-among xs n long = ap (λ m. take m xs) (sym long) ∙ take-length xs

-- not none where there is one
pub some-in-order : {A : Type 0} (order : Order) (xs : List A) (numbers : Range ℕ) → numbers.start < numbers.end → IsSome (slice_get xs numbers.start) → in_order order (among numbers xs) ≢ []
some-in-order order xs numbers some here = λ none.
    let (x, is) = some_found (slice_get xs numbers.start) here in
    let long : length (in_order order (among numbers xs)) ≡ length (among numbers xs) = grind (arith, length-reverse) in
    omega (arith, ap length none, length-drop numbers.start (take numbers.end xs), length-take numbers.end xs, slice_get_within xs numbers.start x is)

-- ---- what is left of a transaction

-- the first rows event is the last where no other is left
pub rows-last : (r : PlacedRows) (rest : List PlacedRows) (last : Bool) → (last ≡ true → rest ≡ []) → (last ≡ false → rest ≢ []) → rows_in_turn (r ∷ rest) ≡ Changes r last ∷ rows_in_turn rest
rows-last r rest last none some = grind arith

-- the event of a turn that was taken
pub taken-is : {A : Type 0} (before after : GroupEvents A) (which w : Turn) (taken : IsTaken before which after) → which ≡ w → IsTurn after.index.now w taken.event
taken-is before after which w taken is = subst (λ i. IsTurn i.now w taken.event) (sym taken.index) (subst (λ x. IsTurn before.index.now x taken.event) is taken.is)
