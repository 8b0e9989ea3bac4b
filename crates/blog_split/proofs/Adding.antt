-- What a piece gets by one more rows event, in bytes.
use Rattle.std.proofs.Common.{◌≡◌, ℕ, zero, suc, ◌+◌, Bool, true, false, ◌||◌, if◌then◌else◌, List, [], ◌∷◌, ◌++◌, filter, Option, Some, None, refl, ap, ◌∙◌, arith, slice_get}
use Rattle.std.specs.Option.{option_to_list}
use Rattle.std.specs.Prelude.{nat_eq}
use Rattle.std.proofs.Math.Bool.{or-false}
use Rattle.std.proofs.Math.Dec.{eqb-suc-suc, eqb-suc-zero, eqb-zero-suc}
use Rattle.blog_event.specs.Event.{Event, event_size}
use Rattle.blog_trans.specs.Groups.{RowsEvent}
use Rattle.blog_flash.specs.Texts.{rows_event}
use Rattle.blog_split.specs.Cuts.{is_used_by, maps_bytes, piece_bytes}
use Rattle.blog_split.specs.code.Marks.{is_number, numbered}
use Rattle.blog_split.proofs.CutWritten.{none-used}
use Rattle.blog_split.proofs.Marks.{IsAdded}
use Rattle.blog_split.proofs.Small.{rows_bytes-append}

or-not : (a b : Bool) → b ≡ false → (a || b) ≡ a
or-not a b is = ap (λ (t : Bool). a || t) is ∙ or-false a

-- maps that pass one of two tests that agree
bytes-same : (p q : Event → Bool) (maps : List Event) → ((k : ℕ) (m : Event) → slice_get maps k ≡ Some m → q m ≡ p m) → maps_bytes (filter q maps) ≡ maps_bytes (filter p maps)
bytes-same p q [] same = refl
bytes-same p q (m ∷ maps) same = by_case (p m) (q m) (same 0 m refl) (bytes-same p q maps (λ k x at. same (suc k) x at))
  where
    by_case : (a b : Bool) → b ≡ a → maps_bytes (filter q maps) ≡ maps_bytes (filter p maps)
        → maps_bytes (if b then m ∷ filter q maps else filter q maps) ≡ maps_bytes (if a then m ∷ filter p maps else filter p maps)
    by_case true b is others = rw is (omega (arith, others))
    by_case false b is others = rw is others

-- and that pass a test, or have this number
module _ (p q : Event → Bool) where
  abbrev Adds : List Event → Option ℕ → Type 0
  Adds maps number = ((k : ℕ) (m : Event) → slice_get maps k ≡ Some m → q m ≡ (p m || is_number number k)) → ((n : ℕ) (m : Event) → number ≡ Some n → slice_get maps n ≡ Some m → p m ≡ false)
      → maps_bytes (filter q maps) ≡ maps_bytes (filter p maps) + maps_bytes (numbered maps (option_to_list number))

  -- the one behind the first is at its own number
  more-behind : (m : Event) (maps : List Event) (n : ℕ) → Adds maps (Some n) → Adds (m ∷ maps) (Some (suc n))
  more-behind m maps n others same apart = by_case (p m) (q m) (same 0 m refl ∙ or-not (p m) (nat_eq (suc n) 0) (eqb-suc-zero n)) (others (λ k x at. same (suc k) x at ∙ ap (λ (b : Bool). p x || b) (eqb-suc-suc n k)) (λ k x is at. apart (suc k) x (ap (λ (o : Option ℕ). next o) is) at))
    where
      next : Option ℕ → Option ℕ
      next None = None
      next (Some k) = Some (suc k)

      by_case : (a b : Bool) → b ≡ a → maps_bytes (filter q maps) ≡ maps_bytes (filter p maps) + maps_bytes (numbered maps (n ∷ []))
          → maps_bytes (if b then m ∷ filter q maps else filter q maps) ≡ maps_bytes (if a then m ∷ filter p maps else filter p maps) + maps_bytes (numbered (m ∷ maps) (suc n ∷ []))
      by_case true b is more = rw is (omega (arith, more))
      by_case false b is more = rw is more

  bytes-added : (maps : List Event) (number : Option ℕ) → Adds maps number
  bytes-added maps None same apart = omega (arith, bytes-same p q maps (λ k m at. same k m at ∙ or-false (p m)))
  bytes-added [] (Some n) same apart = refl
  bytes-added (m ∷ maps) (Some zero) same apart =
      let others = bytes-same p q maps (λ k x at. same (suc k) x at ∙ or-not (p x) (nat_eq 0 (suc k)) (eqb-zero-suc k)) in
      rw (same 0 m refl, apart 0 m refl refl) (omega (arith, others))
  bytes-added (m ∷ maps) (Some (suc n)) same apart = more-behind m maps n (bytes-added maps (Some n)) same apart

-- nothing has no bytes
pub no-bytes : (maps : List Event) → piece_bytes maps [] ≡ 0
no-bytes maps = ap (λ (ms : List Event). maps_bytes ms + 0) (none-used maps)

-- a piece gets the rows event, and its map if that is new
pub piece-more : (maps : List Event) (piece : List RowsEvent) (r : RowsEvent) (number : Option ℕ) → IsAdded maps piece r number
    → piece_bytes maps (piece ++ r ∷ []) ≡ piece_bytes maps piece + (event_size (rows_event true r) + maps_bytes (numbered maps (option_to_list number)))
piece-more maps piece r number is =
    omega (arith, bytes-added (is_used_by piece) (is_used_by (piece ++ r ∷ [])) maps number is.goes is.is_new, rows_bytes-append piece (r ∷ []))
