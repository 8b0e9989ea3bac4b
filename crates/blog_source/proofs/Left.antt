-- What is left to be found of a log, event by event.
use Rattle.std.proofs.Common.{◌≡◌, ℕ, ◌+◌, ◌<◌, Bool, true, false, List, [], ◌∷◌, length, drop, Option, Some, None, Ok, Err, refl, sym, ap, ◌∙◌, inl, inr, arith}
use Rattle.std.specs.Prelude.{◌⊎◌, ◌==◌, ◌&&◌, is_none, Result}
use Rattle.std.specs.Result.{is_ok, result_err}
use Rattle.std.specs.Option.{option_map_or}
use Rattle.std.proofs.lemmas.Bool.Decides.{nat_tests}
use Rattle.std.proofs.lemmas.List.{length-drop}
use Rattle.std.proofs.lemmas.Option.{same_Some}
use Rattle.blog_event.specs.declared.fault.Fault.TheVariants.{CutEvent}
use Rattle.blog_event.specs.Event.{Event, event_at, event_size}
use Rattle.blog_event.specs.File.{placed_from, events_from, is_below}
use Rattle.blog_event.proofs.Headers.{event-at-short}
use Rattle.blog_event.specs.code.Going.{AreRead}
use Rattle.blog_event.proofs.Going.{are-read, are-read-only, left-more, left-none}
use Rattle.blog_sum.specs.Sums.{sum_check}
use Rattle.blog_sum.specs.code.Left.{next_fault}
use Rattle.blog_sum.specs.declared.fault.SumFault.{SumFault}
use Rattle.blog_sum.specs.declared.fault.SumFault.TheVariants.{Log}
use Rattle.blog_source.specs.declared.reading.Reading.{Reading}
use Rattle.blog_source.specs.Found.{Found, begins_right, check_of, found, found_with, is_wrong_sum}
use Rattle.blog_source.specs.code.Walk.{found_left, left, next_check}

-- the events that are left are read
are-left : (bytes : List ℕ) (stop : Option ℕ) (at : ℕ) → AreRead bytes stop at (events_from (length bytes) stop at (drop at bytes))
are-left bytes stop at = are-read (length bytes) bytes stop at (omega (arith, length-drop at bytes))

-- an event that begins below the stop, and those behind it
pub left-first : (bytes : List ℕ) (stop : Option ℕ) (at : ℕ) (e : Event) → is_below at stop ≡ true → event_at (drop at bytes) ≡ Some e
    → left stop (length bytes) at (drop at bytes)
    ≡ record { pos = at; event = e } ∷ left stop (length bytes) (at + event_size e) (drop (at + event_size e) bytes)
left-first bytes stop at e below found =
    let more = left-more bytes stop at _ e (are-left bytes stop at) below found in
    ap (placed_from at)
    (more.1 ∙ ap (λ (es : List Event). e ∷ es) (are-read-only bytes stop (at + event_size e) _ more.0 (are-left bytes stop (at + event_size e)) more.2))

-- none
pub left-ends : (bytes : List ℕ) (stop : Option ℕ) (at : ℕ) → (is_below at stop ≡ false) ⊎ (event_at (drop at bytes) ≡ None)
    → left stop (length bytes) at (drop at bytes) ≡ []
left-ends bytes stop at ends = ap (placed_from at) (left-none bytes stop at _ (are-left bytes stop at) ends)

-- ---- what is found

-- of an event and those behind it, by its check
found-first : (how : Reading) (sums : Bool) (bytes : List ℕ) (at : ℕ) (e : Event) (check : Option SumFault) (passed : Bool)
    → is_below at how.stop ≡ true → event_at (drop at bytes) ≡ Some e
    → check_of sums (record { pos = at; event = e }) ≡ check
    → (how.skip_damaged && (is_wrong_sum check && begins_right (left how.stop (length bytes) (at + event_size e) (drop (at + event_size e) bytes)))) ≡ passed
    → found_left how sums (length bytes) at (drop at bytes)
    ≡ found_with check passed (record { pos = at; event = e }) (found_left how sums (length bytes) (at + event_size e) (drop (at + event_size e) bytes))
found-first how sums bytes at e check passed below stands checked tested =
    ap (found how sums (length bytes) at) (left-first bytes how.stop at e below stands) ∙ (rw (checked, tested) refl)

-- an event that passes its check
pub found-kept : (how : Reading) (sums : Bool) (bytes : List ℕ) (at : ℕ) (e : Event) → is_below at how.stop ≡ true → event_at (drop at bytes) ≡ Some e
    → check_of sums (record { pos = at; event = e }) ≡ None
    → found_left how sums (length bytes) at (drop at bytes)
    ≡ found_with None false (record { pos = at; event = e }) (found_left how sums (length bytes) (at + event_size e) (drop (at + event_size e) bytes))
found-kept how sums bytes at e below stands fine = found-first how sums bytes at e None _ below stands fine refl

-- the check of an event that stands at a position
pub check-is : (sums : Bool) (bytes : List ℕ) (at : ℕ) (e : Event) (check : Option SumFault) → event_at (drop at bytes) ≡ Some e → next_check sums bytes at ≡ check
    → check_of sums (record { pos = at; event = e }) ≡ check
check-is sums bytes at e check stands is = rw stands at is

-- one that is passed over
pub found-passed : (how : Reading) (sums : Bool) (bytes : List ℕ) (at : ℕ) (e : Event) (size : ℕ) (fault : SumFault) → is_below at how.stop ≡ true
    → event_at (drop at bytes) ≡ Some e → size ≡ event_size e → next_check sums bytes at ≡ Some fault → how.skip_damaged ≡ true → is_wrong_sum (Some fault) ≡ true
    → begins_right (left how.stop (length bytes) (at + size) (drop (at + size) bytes)) ≡ true
    → found_left how sums (length bytes) at (drop at bytes)
    ≡ found_with (Some fault) true (record { pos = at; event = e }) (found_left how sums (length bytes) (at + size) (drop (at + size) bytes))
found-passed how sums bytes at e size fault below stands size_is fails skips wrong right =
    let first : begins_right (left how.stop (length bytes) (at + event_size e) (drop (at + event_size e) bytes)) ≡ true =
    ap (λ (size : ℕ). begins_right (left how.stop (length bytes) (at + size) (drop (at + size) bytes))) (sym size_is) ∙ right in
    found-first how sums bytes at e (Some fault) true below stands (check-is sums bytes at e (Some fault) stands fails) (rw (skips, wrong, first) refl)
    ∙ ap (λ (size : ℕ). found_with (Some fault) true (record { pos = at; event = e }) (found_left how sums (length bytes) (at + size) (drop (at + size) bytes))) (sym size_is)

-- where the reading ends
pub ends_there : ℕ → SumFault → Found
ends_there at fault = record { kept = []; fault = Some fault; end = at; damaged = 0 }

pub found-refused : (how : Reading) (sums : Bool) (bytes : List ℕ) (at : ℕ) (fault : SumFault) → at < length bytes → is_below at how.stop ≡ true
    → next_check sums bytes at ≡ Some fault
    → ((e : Event) → event_at (drop at bytes) ≡ Some e
    → (how.skip_damaged && (is_wrong_sum (Some fault) && begins_right (left how.stop (length bytes) (at + event_size e) (drop (at + event_size e) bytes)))) ≡ false)
    → found_left how sums (length bytes) at (drop at bytes) ≡ record { kept = []; fault = Some fault; end = at; damaged = 0 }
found-refused how sums bytes at fault before below fails unpassed = by_found (event_at (drop at bytes)) refl
  where
    by_found : (there : Option Event) → event_at (drop at bytes) ≡ there
        → found_left how sums (length bytes) at (drop at bytes) ≡ record { kept = []; fault = Some fault; end = at; damaged = 0 }
    by_found None none =
        let test : (at == length bytes) ≡ false = grind (arith, nat_tests) in
        let same : Log (CutEvent at) ≡ fault = same_Some (Log (CutEvent at)) fault (rw none at fails) in
        ap (found how sums (length bytes) at) (left-ends bytes how.stop at (inr none)) ∙ (rw (test, below, same) refl)
    by_found (Some e) stands =
        found-first how sums bytes at e (Some fault) false below stands (check-is sums bytes at e (Some fault) stands fails) (unpassed e stands)

-- at the end of the log, and at the stop
pub found-whole : (how : Reading) (sums : Bool) (bytes : List ℕ) (at : ℕ) → (is_below at how.stop ≡ false) ⊎ (at ≡ length bytes)
    → found_left how sums (length bytes) at (drop at bytes) ≡ record { kept = []; fault = None; end = at; damaged = 0 }
found-whole how sums bytes at (inl stopped) =
    ap (found how sums (length bytes) at) (left-ends bytes how.stop at (inl stopped)) ∙ by_end (at == length bytes) refl
  where
    by_end : (test : Bool) → (at == length bytes) ≡ test → found how sums (length bytes) at [] ≡ record { kept = []; fault = None; end = at; damaged = 0 }
    by_end true is = rw is refl
    by_end false is = rw (is, stopped) refl
found-whole how sums bytes at (inr whole) =
    let test : (at == length bytes) ≡ true = grind (arith, nat_tests) in
    let none : event_at (drop at bytes) ≡ None = event-at-short (drop at bytes) (omega (arith, length-drop at bytes)) in
    ap (found how sums (length bytes) at) (left-ends bytes how.stop at (inr none)) ∙ (rw test refl)

-- ---- tests that the code makes

-- whether the first event that is left ends in its sum, by what the code found of it
pub right-first : (bytes : List ℕ) (stop : Option ℕ) (at : ℕ) (right : Bool) → is_below at stop ≡ true
    → option_map_or (λ e. is_none (sum_check (record { pos = at; event = e }))) (event_at (drop at bytes)) false ≡ right
    → begins_right (left stop (length bytes) at (drop at bytes)) ≡ right
right-first bytes stop at right below is = by_found (event_at (drop at bytes)) refl
  where
    by_found : (there : Option Event) → event_at (drop at bytes) ≡ there → begins_right (left stop (length bytes) at (drop at bytes)) ≡ right
    by_found None none = ap begins_right (left-ends bytes stop at (inr none)) ∙ (rw none at is)
    by_found (Some e) stands = ap begins_right (left-first bytes stop at e below stands) ∙ (rw stands at is)

-- an answer is one where no error is
ok-none : {A E : Type 0} (r : Result A E) → is_ok r ≡ is_none (result_err r)
ok-none (Ok x) = refl
ok-none (Err error) = refl

-- a check that finds nothing
none-found : (at : ℕ) (there : Option Event) → option_map_or (λ e. is_none (sum_check (record { pos = at; event = e }))) there false
    ≡ is_none (option_map_or (λ e. sum_check (record { pos = at; event = e })) there (Some (Log (CutEvent at))))
none-found at None = refl
none-found at (Some e) = refl

pub right-tested : {A : Type 0} (bytes : List ℕ) (stop : Option ℕ) (at : ℕ) (r : Result A SumFault) (ok : Bool) → is_below at stop ≡ true
    → result_err r ≡ next_fault bytes at → ok ≡ is_ok r → ok ≡ begins_right (left stop (length bytes) at (drop at bytes))
right-tested bytes stop at r ok below is ok_is =
    ok_is ∙ ok-none r ∙ ap is_none is ∙ sym (right-first bytes stop at _ below (none-found at (event_at (drop at bytes))))

pub right-none : (bytes : List ℕ) (stop : Option ℕ) (at : ℕ) → is_below at stop ≡ false → false ≡ begins_right (left stop (length bytes) at (drop at bytes))
right-none bytes stop at above = sym (ap begins_right (left-ends bytes stop at (inl above)))

-- tests of which the first, or the second, fails
pub first-fails : (a b c : Bool) → a ≡ false → (a && (b && c)) ≡ false
first-fails a b c is = rw is refl

pub second-fails : (a b c : Bool) → b ≡ false → (a && (b && c)) ≡ false
second-fails false b c is = refl
second-fails true b c is = rw is refl

pub third-fails : (a b c : Bool) → c ≡ false → (a && (b && c)) ≡ false
third-fails false b c is = refl
third-fails true false c is = refl
third-fails true true c is = is
