-- The items of a log from a position on, one by one.
use Rattle.std.proofs.Common.{◌≡◌, ℕ, ◌+◌, ◌<◌, ◌≢◌, true, false, List, [], ◌∷◌, length, drop, Some, None, Ok, Err, refl, sym, ap, ◌∙◌, inr, arith}
use Rattle.std.specs.Prelude.{Result, ◌==◌, if◌then◌else◌, IfOk, IfErr, option_map}
use Rattle.std.specs.Result.{result_ok}
use Rattle.std.proofs.lemmas.Bool.Decides.{nat_tests}
use Rattle.std.proofs.lemmas.List.{length-drop}
use Rattle.blog_event.specs.declared.fault.Fault.{Fault}
use Rattle.blog_event.specs.declared.fault.Fault.TheVariants.{CutEvent}
use Rattle.blog_event.specs.declared.event.Event as told
use Rattle.blog_event.specs.Event.{Event, event_size, event_at, event_of}
use Rattle.blog_event.specs.File.{events_from}
use Rattle.blog_event.specs.Items.{item_of, items_of, items_from}
use Rattle.blog_event.proofs.Headers.{event-at-short}
use Rattle.blog_event.specs.code.Going.{AreRead}
use Rattle.blog_event.proofs.Going.{are-read, are-read-only, left-more, left-none}

-- the events that are left of a log
pub are-left : (bytes : List ℕ) (at : ℕ) → AreRead bytes None at (events_from (length bytes) None at (drop at bytes))
are-left bytes at = are-read (length bytes) bytes None at (omega (arith, length-drop at bytes))

-- where an event stands, it is the first that is left
pub events-left-more : (bytes : List ℕ) (at : ℕ) (e : Event) → event_at (drop at bytes) ≡ Some e
    → events_from (length bytes) None at (drop at bytes) ≡ e ∷ events_from (length bytes) None (at + event_size e) (drop (at + event_size e) bytes)
events-left-more bytes at e found =
    let more = left-more bytes None at _ e (are-left bytes at) refl found in
    more.1 ∙ ap (λ (es : List Event). e ∷ es) (are-read-only bytes None (at + event_size e) _ more.0 (are-left bytes (at + event_size e)) more.2)

pub items-more : (bytes : List ℕ) (at : ℕ) (e : Event) → event_at (drop at bytes) ≡ Some e
    → items_from bytes at ≡ Ok (record { pos = at; event = e }) ∷ items_from bytes (at + event_size e)
unfolding items_from
items-more bytes at e found = ap (items_of at (length bytes)) (events-left-more bytes at e found)

-- where none stands, none is left, and there is no more than a fault
pub events-left-none : (bytes : List ℕ) (at : ℕ) → event_at (drop at bytes) ≡ None → events_from (length bytes) None at (drop at bytes) ≡ []
events-left-none bytes at none = left-none bytes None at _ (are-left bytes at) (inr none)

pub items-last : (bytes : List ℕ) (at : ℕ) → event_at (drop at bytes) ≡ None
    → items_from bytes at ≡ (if at == length bytes then [] else Err (CutEvent at) ∷ [])
unfolding items_from
items-last bytes at none = ap (items_of at (length bytes)) (events-left-none bytes at none)

-- nothing is left at the end
pub items-end : (bytes : List ℕ) (at : ℕ) → at ≡ length bytes → items_from bytes at ≡ []
items-end bytes at is =
    let short : length (drop at bytes) < 19 = omega (arith, length-drop at bytes) in
    let test : (at == length bytes) ≡ true = grind (arith, nat_tests) in
    items-last bytes at (event-at-short (drop at bytes) short) ∙ (rw test refl)

-- an event that was found, with its place, and those behind it
pub items-ok : (bytes : List ℕ) (at : ℕ) (r : Result told.Event Fault) (e : told.Event) → r ≡ Ok e → option_map event_of (result_ok r) ≡ event_at (drop at bytes)
    → IfOk r (λ e. e.pos ≡ at) → IfOk r (λ e. e.header.size ≡ event_size (event_of e))
    → items_from bytes at ≡ item_of r ∷ items_from bytes (at + e.header.size)
items-ok bytes at (Err fault) e is found pos size = absurd (cc)
items-ok bytes at (Ok d) e is found pos size =
    let same : e ≡ d = cc in
    rw (same, pos, size) (items-more bytes at (event_of d) (sym found))

-- a fault, and nothing behind it
pub items-err : (bytes : List ℕ) (at : ℕ) (r : Result told.Event Fault) (fault : Fault) → r ≡ Err fault → option_map event_of (result_ok r) ≡ event_at (drop at bytes)
    → IfErr r (λ fault. fault ≡ CutEvent at) → at ≢ length bytes → items_from bytes at ≡ item_of r ∷ []
items-err bytes at (Ok e) fault is found cut off = absurd (cc)
items-err bytes at (Err said) fault is found cut off =
    let test : (at == length bytes) ≡ false = grind (arith, nat_tests) in
    items-last bytes at (sym found) ∙ (rw (test, cut) refl)
