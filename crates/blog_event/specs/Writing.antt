-- What is appended to a file.
use Rattle.std.specs.Prelude.{ℕ, ◌+◌, List, ◌∷◌, ◌++◌, length}
use Rattle.std.specs.Borrow.{Bor}
use Rattle.std.specs.List.{flat_map}
use Rattle.byteorder.specs.Endian.{little_bytes}
use Rattle.blog_event.specs.declared.event.Header.{Header}
use Rattle.blog_event.specs.Event.{Event}

-- the 19 bytes of a header: timestamp, type, server id, size, log_pos, flags
unfoldable pub header_text : Header → List ℕ
header_text h = little_bytes 4 h.timestamp ++ (h.kind ∷ (little_bytes 4 h.server_id ++ (little_bytes 4 h.size ++ (little_bytes 4 h.log_pos ++ little_bytes 2 h.flags))))

-- the header of an event of `size` bytes that is appended to a file of `pos` bytes
abbrev pub ending : ℕ → ℕ → Header → Header
ending pos size h = record h { size = size; log_pos = pos + size }

-- the event that is appended to a file of `pos` bytes: its log_pos is where it ends
abbrev pub appended : ℕ → Header → List ℕ → Event
appended pos h body = record { timestamp = h.timestamp; kind = h.kind; server_id = h.server_id; log_pos = pos + (19 + length body); flags = h.flags; body = body }

-- the bytes of slices, joined
abbrev pub joined : List (Bor (List ℕ)) → List ℕ
joined parts = flat_map (λ part. part.now) parts
