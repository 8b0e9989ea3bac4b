-- What becomes of an event of a server's log: none, one or several events that flashback reads, together no longer than it.
use Rattle.std.specs.Prelude.{ℕ, ◌==◌, ◌&&◌, nat_le, Bool, if◌then◌else◌, List, [], ◌∷◌, length}
use Rattle.blog_event.specs.Event.{Event}
use Rattle.blog_gtid.specs.Tagged.{gtid_body_of}
use Rattle.blog_source.specs.declared.becoming.Becoming.{Becoming}
use Rattle.blog_source.specs.declared.becoming.Becoming.TheVariants.{Itself, Gtid, Begin, Nothing}
use Rattle.blog_source.specs.Maria.{begin_of, is_maria_gtid, is_note, is_standalone}

-- a tagged GTID event (type 42), with a body that is long enough for that of a Gtid event
abbrev pub is_tagged : ℕ → List ℕ → Bool
is_tagged kind body = (kind == 42) && nat_le 25 (length body)

-- of an event by its type and its body: a tagged one becomes a Gtid event; of MariaDB's events, notes become nothing, and a
-- Gtid event the beginning of its transaction, if it has one; any other stays itself
abbrev pub becoming_of : ℕ → List ℕ → Becoming
becoming_of kind body =
    if is_tagged kind body then Gtid else
    if is_note kind then Nothing else
    if is_maria_gtid kind body then (if is_standalone body then Nothing else Begin) else Itself

-- the events that it becomes; so much of its body has the Gtid event (type 33) of a tagged one
abbrev pub become_as : (List ℕ → List ℕ) → Becoming → Event → List Event
become_as cut Itself e = e ∷ []
become_as cut Gtid e = record e { kind = 33; body = cut (gtid_body_of e.body) } ∷ []
become_as cut Begin e = begin_of e ∷ []
become_as cut Nothing e = []

abbrev pub becomes_with : (List ℕ → List ℕ) → Event → List Event
becomes_with cut e = become_as cut (becoming_of e.kind e.body) e
