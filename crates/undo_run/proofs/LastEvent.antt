-- The events of a log behind a position.
use Rattle.std.proofs.Common.{◌≡◌, ℕ, ◌+◌, List, [], ◌∷◌, drop, None, Some, sym, ap, ◌∙◌}
use Rattle.blog_event.specs.declared.event.Event as told
use Rattle.blog_event.specs.Event.{Event, event_at, event_of, event_size}
use Rattle.blog_event.specs.File.{placed_from, read}
use Rattle.blog_event.proofs.Going.{are-read-only}
use Rattle.blog_event.proofs.Items.{are-left, events-left-more, events-left-none}
use Rattle.blog_event.proofs.Opened.{LogReads}
use Rattle.blog_trans.specs.Places.{placed}
use Rattle.blog_units.specs.code.Boundaries.{events_behind}

-- one that stands there is the first
pub behind-event : (bytes : List ℕ) (at : ℕ) (e : told.Event) → event_at (drop at bytes) ≡ Some (event_of e) → e.pos ≡ at → e.header.size ≡ event_size (event_of e)
    → events_behind bytes at ≡ placed e ∷ events_behind bytes (at + e.header.size)
behind-event bytes at e stands pos size =
    ap (placed_from at) (events-left-more bytes at (event_of e) stands)
    ∙ (λ i. record { pos = sym pos i; event = event_of e } ∷ events_behind bytes (at + sym size i))

-- where none stands, none follows
pub behind-none : (bytes : List ℕ) (at : ℕ) → event_at (drop at bytes) ≡ None → events_behind bytes at ≡ []
behind-none bytes at none = ap (placed_from at) (events-left-none bytes at none)

-- those behind the first one
pub events-first : (bytes : List ℕ) (at : ℕ) → LogReads bytes None at → drop 1 (placed_from 4 (read bytes None)) ≡ events_behind bytes at
events-first bytes at reads =
    let same = are-read-only bytes None at _ reads.later (are-left bytes at) reads.left.are in
    ap (λ (es : List Event). drop 1 (placed_from 4 es)) reads.read_is
    ∙ ap (λ (n : ℕ). placed_from n reads.later) reads.starts
    ∙ ap (placed_from at) same
