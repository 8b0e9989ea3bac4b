-- An event and its bytes (MySQL Internals manual, "Binary Log Event Header"; all numbers are little-endian).
use Rattle.std.specs.Prelude.{ℕ, ◌+◌, ◌-◌, ◌<◌, ◌^◌, ◌&&◌, if◌then◌else◌, List, ◌∷◌, ◌++◌, length, take, drop, slice_index, nat_le, Option, Some, None}
use Rattle.byteorder.specs.Endian.{little_bytes, little_number}
use Rattle.blog_event.specs.declared.event.Event as told

-- a header without its size, and a body; the size is that of both
pub record Event : Type 0 where
  pub timestamp : ℕ
  pub kind : ℕ
  pub server_id : ℕ
  pub log_pos : ℕ
  pub flags : ℕ
  pub body : List ℕ

-- header and body, in bytes
abbrev pub event_size : Event → ℕ
event_size e = 19 + length e.body

-- timestamp, type, server id, size, log_pos and flags, and the body behind them
unfoldable pub event_text : Event → List ℕ
event_text e =
    little_bytes 4 e.timestamp ++ (e.kind ∷ (little_bytes 4 e.server_id ++ (little_bytes 4 (event_size e)
    ++ (little_bytes 4 e.log_pos ++ (little_bytes 2 e.flags ++ e.body)))))

-- each field of the header fits its bytes
pub record IsEvent (e : Event) : Type 0 where
  pub timestamp : e.timestamp < 2 ^ 32
  pub kind : e.kind < 2 ^ 8
  pub server_id : e.server_id < 2 ^ 32
  pub size : event_size e < 2 ^ 32
  pub log_pos : e.log_pos < 2 ^ 32
  pub flags : e.flags < 2 ^ 16

-- the event with which bytes begin
unfoldable pub event_at : List ℕ → Option Event
event_at bytes =
    let size = little_number 4 (drop 9 bytes) in
    if nat_le 19 (length bytes) && (nat_le 19 size && nat_le size (length bytes)) then Some (record {
      timestamp = little_number 4 bytes;
      kind = slice_index bytes 4;
      server_id = little_number 4 (drop 5 bytes);
      log_pos = little_number 4 (drop 13 bytes);
      flags = little_number 2 (drop 17 bytes);
      body = take (size - 19) (drop 19 bytes);
    }) else None

-- the event without its place in the file, which no check looks at: log_pos is 0
abbrev pub unplaced : Event → Event
unplaced e = record e { log_pos = 0 }

-- an event of the program, without where it lies
abbrev pub event_of : told.Event → Event
event_of e = record { timestamp = e.header.timestamp; kind = e.header.kind; server_id = e.header.server_id; log_pos = e.header.log_pos; flags = e.header.flags; body = e.body.now }
