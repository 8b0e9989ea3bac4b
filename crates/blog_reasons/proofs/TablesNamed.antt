-- The events of a log that are left, and the tables that they name.
use Rattle.std.proofs.Common.{◌≡◌, ◌∙◌, ℕ, ◌+◌, List, [], ◌∷◌, drop, Option, Some, None, sym, ap}
use Rattle.std.specs.Prelude.{filter_map}
use Rattle.blog_event.specs.declared.event.Event as told
use Rattle.blog_event.specs.Event.{Event, event_at, event_of, event_size}
use Rattle.blog_event.specs.File.{Placed, placed_from, read}
use Rattle.blog_event.proofs.Going.{are-read-only}
use Rattle.blog_event.proofs.Items.{are-left, events-left-more, events-left-none}
use Rattle.blog_event.proofs.Opened.{LogReads}
use Rattle.blog_row.specs.TableMap.{Table}
use Rattle.blog_trans.specs.Places.{placed}
use Rattle.blog_units.specs.code.Boundaries.{events_behind}
use Rattle.blog_reasons.specs.Reasons.{table_named, tables_named}

-- those of all events behind the first
pub named-first : (bytes : List ℕ) (at : ℕ) → LogReads bytes None at → tables_named bytes ≡ filter_map table_named (events_behind bytes at)
unfolding tables_named
named-first bytes at reads =
    let same = are-read-only bytes None at _ reads.later (are-left bytes at) reads.left.are in
    ap (λ (es : List Event). filter_map table_named (drop 1 (placed_from 4 es))) reads.read_is
    ∙ ap (λ (n : ℕ). filter_map table_named (placed_from n reads.later)) reads.starts
    ∙ ap (λ (es : List Event). filter_map table_named (placed_from at es)) same

-- an event that is at a position is the first that is left from there on
pub left-event : (bytes : List ℕ) (at : ℕ) (e : told.Event) → event_at (drop at bytes) ≡ Some (event_of e) → e.pos ≡ at → e.header.size ≡ event_size (event_of e)
    → events_behind bytes at ≡ placed e ∷ events_behind bytes (at + e.header.size)
left-event bytes at e stands pos size =
    ap (placed_from at) (events-left-more bytes at (event_of e) stands)
    ∙ (λ i. record { pos = sym pos i; event = event_of e } ∷ events_behind bytes (at + sym size i))

-- where none is, none is left
pub left-none : (bytes : List ℕ) (at : ℕ) → event_at (drop at bytes) ≡ None → events_behind bytes at ≡ []
left-none bytes at none = ap (placed_from at) (events-left-none bytes at none)
