-- What is told of the next unit.
use Rattle.std.proofs.Common.{◌≡◌, ◌∙◌, ℕ, ◌+◌, Bool, List, ◌∷◌, map, Option, Some, None, refl, sym, ap}
use Rattle.std.specs.Prelude.{find, option_map, unwrap_or}
use Rattle.std.specs.Option.{option_map_or}
use Rattle.blog_event.specs.declared.event.Event as told
use Rattle.blog_event.specs.Event.{event_of, event_size}
use Rattle.blog_event.specs.File.{Placed}
use Rattle.blog_trans.specs.Places.{placed}
use Rattle.blog_units.specs.declared.part.Part.{Part}
use Rattle.blog_units.specs.declared.unit.Seen.{Seen}
use Rattle.blog_units.specs.code.Boundaries.{events_behind}
use Rattle.blog_units.specs.Units.{Id, Unit, end_behind, facts_of, id_of, is_query_or_rows, is_whole, part_behind, rest_of, units_in}
use Rattle.blog_units.specs.code.UnitsView.{HasStopped, IsFirst, none_seen, seen_of, seen_with, timestamp_of}
use Rattle.blog_units.proofs.Going.{seen-more}

unwrapped : {A : Type 0} (f : A → ℕ) (o : Option A) (n : ℕ) → unwrap_or (option_map f o) n ≡ option_map_or f o n
unwrapped f None n = refl
unwrapped f (Some x) n = refl

pub next-facts : (bytes : List ℕ) (from stop : ℕ) (e : told.Event) (part : Part) (known seen : Seen) (last : Option Part) (t : ℕ) (id : Option Id) (whole : Bool)
    → IsFirst bytes from (e, part)
    → HasStopped (e.pos + e.header.size) stop part known seen last (events_behind bytes (e.pos + e.header.size)) (events_behind bytes stop)
    → known ≡ seen_with none_seen (placed e) → t ≡ unwrap_or seen.time e.header.timestamp → id ≡ id_of (event_of e) → whole ≡ is_whole last
    → map facts_of (units_in None (events_behind bytes from)) ≡ record { start = e.pos; stop = stop; time = t; thread = seen.thread; id = id; whole = whole } ∷ map facts_of (units_in None (events_behind bytes stop))
next-facts bytes from stop e part known seen last t id whole first stopped known_is t_is id_is whole_is =
    let rest : List Placed = rest_of (Some part) (events_behind bytes (e.pos + e.header.size)) in
    let u : Unit = record { first = placed e; rest = rest } in
    let stop_is : stop ≡ end_behind (e.pos + event_size (event_of e)) rest = stopped.stops ∙ ap (λ (n : ℕ). end_behind (e.pos + n) rest) first.size in
    let seen_is : seen ≡ seen_of none_seen (placed e ∷ rest) =
    stopped.seen_is ∙ ap (λ (s : Seen). seen_of s rest) known_is ∙ sym (seen-more none_seen (placed e) rest) in
    let thread_is : seen.thread ≡ (facts_of u).thread = ap (λ (s : Seen). s.thread) seen_is in
    let t_facts : t ≡ (facts_of u).time = t_is ∙ ap (λ (s : Seen). unwrap_or s.time e.header.timestamp) seen_is
    ∙ unwrapped timestamp_of (find is_query_or_rows (placed e ∷ rest)) e.header.timestamp in
    let whole_facts : whole ≡ (facts_of u).whole = whole_is ∙ ap is_whole stopped.last_is ∙ ap (λ (o : Option Part). is_whole (part_behind o rest)) (sym first.opened) in
    let facts : facts_of u ≡ record { start = e.pos; stop = stop; time = t; thread = seen.thread; id = id; whole = whole } =
    λ i. record { start = e.pos; stop = sym stop_is i; time = sym t_facts i; thread = sym thread_is i; id = sym id_is i; whole = sym whole_facts i } in
    ap (λ (us : List Unit). map facts_of us) first.units
    ∙ (λ i. facts i ∷ map facts_of (stopped.units_are i))
