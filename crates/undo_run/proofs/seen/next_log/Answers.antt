use Rattle.std.proofs.Common.{◌≡◌, Option, None, List, ℕ, [], drop, sym, ap, ◌∙◌}
use Rattle.std.specs.Prelude.{option_map}
use Rattle.std.specs.List.{last_or}
use Rattle.std.specs.Option.{option_map_or}
use Rattle.blog_event.specs.Event.{event_at}
use Rattle.blog_event.specs.File.{Placed, placed_from, read}
use Rattle.blog_event.specs.code.LogView.{log_bytes}
use Rattle.blog_event.proofs.Opened.{log-reads}
use Rattle.blog_trans.specs.Places.{placed}
use Rattle.blog_units.specs.code.Boundaries.{events_behind}
use Rattle.undo_run.proofs.LastEvent.{behind-event, behind-none, events-first}
use Rattle.undo_run.specs.After.{next_log, rotated_to}
use Rattle.undo_run.proofs.seen.next_log.Goals as goal

pub events-init : goal.events-init
events-init c =
    let bytes = log_bytes c.args.log.now in
    let reads = log-reads c.args.log.now None c.first-pos.result c.first-pos.ensures.event in
    record {
      within = c.first-pos.ensures.within;
      last_is = ap (last_or None) (sym (events-first bytes c.first-pos.result reads));
    }

pub events-preserved : goal.events-preserved
events-preserved c =
    let bytes = log_bytes c.args.log.now in
    let e = c.in-Ok.event in
    let pos = c.events.pos in
    let stands = sym c.in-Ok.ensures.event in
    record {
      within = c.in-Ok.ensures.within;
      last_is = sym (ap (last_or (option_map placed c.events.last)) (behind-event bytes pos e stands c.in-Ok.ensures.pos c.in-Ok.ensures.size)) ∙ c.events.invariant.last_is;
    }

-- where no more events follow, the last one is told
told-next : (bytes : List ℕ) (pos : ℕ) (last : Option Placed) → event_at (drop pos bytes) ≡ None → last_or last (events_behind bytes pos) ≡ last_or None (drop 1 (placed_from 4 (read bytes None)))
    → option_map_or rotated_to last [] ≡ next_log bytes
told-next bytes pos last none is = ap (λ p. option_map_or rotated_to p []) (sym (ap (last_or last) (behind-none bytes pos none)) ∙ is)

pub returns-in-Some : goal.returns-in-Some
returns-in-Some c =
    c.rotated_to.ensures ∙ ap (λ (last : Option _). option_map_or rotated_to (option_map placed last) []) (sym c.in-Some.is)
    ∙ told-next (log_bytes c.args.log.now) c.events.pos (option_map placed c.events.last) (sym c.in_default.ensures.event) c.events.invariant.last_is

pub returns-in-None : goal.returns-in-None
returns-in-None c =
    ap (λ (last : Option _). option_map_or rotated_to (option_map placed last) []) (sym c.in-None.is)
    ∙ told-next (log_bytes c.args.log.now) c.events.pos (option_map placed c.events.last) (sym c.in_default.ensures.event) c.events.invariant.last_is
