-- Going through the events of a log in place: what is left to be found, and what has been handed out.
use Rattle.std.specs.Prelude.{◌≡◌, ℕ, ◌+◌, ◌-◌, ◌≤◌, Bool, true, false, List, [], length, map, take, drop, Option, Some, None}
use Rattle.std.specs.List.{flat_map}
use Rattle.std.specs.Option.{option_map_or}
use Rattle.blog_event.specs.declared.event.Header.{Header}
use Rattle.blog_event.specs.declared.fault.Fault.TheVariants.{CutEvent}
use Rattle.blog_event.specs.Event.{Event, event_at, event_size, event_text}
use Rattle.blog_event.specs.File.{Placed, placed_from, events_from}
use Rattle.blog_sum.specs.declared.fault.SumFault.{SumFault}
use Rattle.blog_sum.specs.declared.fault.SumFault.TheVariants.{Log}
use Rattle.blog_sum.specs.Plain.{ended_from}
use Rattle.blog_source.specs.declared.form.Form.{Form}
use Rattle.blog_source.specs.declared.form.Form.TheVariants.{Places, Plain}
use Rattle.blog_source.specs.declared.reading.Reading.{Reading}
use Rattle.blog_source.specs.declared.walk.Step.{Step}
use Rattle.blog_source.specs.declared.walk.Step.TheVariants.{Keep, PassOver, Refuse}
use Rattle.blog_source.specs.Found.{Found, check_of, found, found_with, is_wrong_sum, sums_check}
use Rattle.blog_source.specs.Becoming.{becomes_with}
use Rattle.blog_source.specs.Handed.{bare, handed}
use Rattle.blog_source.specs.Plain.{plainly}

-- the events that follow each other from a position on, where these bytes are left of a log
abbrev pub left : Option ℕ → ℕ → ℕ → List ℕ → List Placed
left stop len at rest = placed_from at (events_from len stop at rest)

-- what is found of them
abbrev pub found_left : Reading → Bool → ℕ → ℕ → List ℕ → Found
found_left how sums len at rest = found how sums len at (left how.stop len at rest)

-- the check of the sum of the event at a position, or that there is none
abbrev pub next_sum : Bool → List ℕ → ℕ → Option SumFault
next_sum sums bytes at = option_map_or (λ e. sums_check sums (record { pos = at; event = e })) (event_at (drop at bytes)) (Some (Log (CutEvent at)))

-- the check of the event at a position, or that there is none
abbrev pub next_check : Bool → List ℕ → ℕ → Option SumFault
next_check sums bytes at = option_map_or (λ e. check_of sums (record { pos = at; event = e })) (event_at (drop at bytes)) (Some (Log (CutEvent at)))

-- the body of a Gtid event in a form: with its tag, or its first 25 bytes
abbrev pub cut_as : Form → List ℕ → List ℕ
cut_as Places body = body
cut_as Plain body = take 25 body

-- the log_pos of an event, which was at a position of the log, and ends at another now
abbrev pub pos_as : Form → ℕ → ℕ → ℕ
pos_as Places at end = at
pos_as Plain at end = end

-- what an event becomes in a form
abbrev pub formed : Form → Event → List Event
formed form e = becomes_with (cut_as form) e

-- what is put for events, from a position on
abbrev pub put_from : Form → Bool → ℕ → List Placed → List Event
put_from Places sums pos ps = flat_map (handed sums) ps
put_from Plain sums pos ps = ended_from pos (flat_map (λ (p : Placed). plainly (bare sums p.event)) ps)

-- its text
abbrev pub put_text : Form → Bool → ℕ → List Placed → List ℕ
put_text form sums pos ps = flat_map event_text (put_from form sums pos ps)

-- the header of an event
pub record IsHeaderOf (e : Event) (h : Header) : Type 0 where
  pub size : h.size ≡ event_size e
  pub timestamp : h.timestamp ≡ e.timestamp
  pub kind : h.kind ≡ e.kind
  pub server_id : h.server_id ≡ e.server_id
  pub flags : h.flags ≡ e.flags

-- how long an event is without its sum, where it has one
abbrev pub moved_size : Bool → ℕ → ℕ
moved_size true size = size - 4
moved_size false size = size

-- the event at a position, whose header this is, without its sum and its log_pos
abbrev pub moved_bare : Bool → ℕ → Header → List ℕ → Event
moved_bare sums at h bytes = record {
  timestamp = h.timestamp;
  kind = h.kind;
  server_id = h.server_id;
  log_pos = 0;
  flags = h.flags;
  body = take (moved_size sums h.size - 19) (drop (at + 19) bytes);
}

-- events that were one at a position, put at another: none, or one
abbrev pub put_as : Form → ℕ → ℕ → List Event → List Event
put_as form at to es = map {A = Event} (λ e. record e { log_pos = pos_as form at (to + event_size e) }) es

-- what is put for it at another position
abbrev pub moved : Form → Bool → ℕ → ℕ → Header → List ℕ → List Event
moved form sums to at h bytes = put_as form at to (formed form (moved_bare sums at h bytes))

-- an event at a position passes its check; this is its header
pub record IsKept (how : Reading) (sums : Bool) (bytes : List ℕ) (at : ℕ) (h : Header) : Type 0 where
  pub event : Event
  pub stands : event_at (drop at bytes) ≡ Some event
  pub header : IsHeaderOf event h
  pub within : at + h.size ≤ length bytes
  pub passes : check_of sums (record { pos = at; event = event }) ≡ None
  pub found : found_left how sums (length bytes) at (drop at bytes)
      ≡ found_with None false (record { pos = at; event = event }) (found_left how sums (length bytes) (at + event_size event) (drop (at + event_size event) bytes))

-- an event at a position is passed over, since its sum is wrong; this is its header
pub record IsPassed (how : Reading) (sums : Bool) (bytes : List ℕ) (at : ℕ) (h : Header) : Type 0 where
  pub event : Event
  pub fault : SumFault
  pub stands : event_at (drop at bytes) ≡ Some event
  pub header : IsHeaderOf event h
  pub within : at + h.size ≤ length bytes
  pub fails : check_of sums (record { pos = at; event = event }) ≡ Some fault
  pub wrong : is_wrong_sum (Some fault) ≡ true
  pub found : found_left how sums (length bytes) at (drop at bytes)
      ≡ found_with (Some fault) true (record { pos = at; event = event }) (found_left how sums (length bytes) (at + h.size) (drop (at + h.size) bytes))

-- the header of a damaged event
abbrev pub damaged_header : Header → Header
damaged_header h = record h { kind = 255; flags = h.kind }

-- what is said of the event at a position: that it is kept, that it is passed over, or why the reading ends there
abbrev pub IsStep : Reading → Bool → List ℕ → ℕ → Step → Type 0
IsStep how sums bytes at (Keep header) = IsKept how sums bytes at header
IsStep how sums bytes at (PassOver header) = IsPassed how sums bytes at header
IsStep how sums bytes at (Refuse fault) =
    found_left how sums (length bytes) at (drop at bytes) ≡ record { kept = []; fault = Some fault; end = at; damaged = 0 }
