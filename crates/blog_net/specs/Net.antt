-- The net effect of a mistake on rows: each is updated from what it would be without the mistake to what it is.
use Rattle.std.specs.Prelude.{ℕ, ◌+◌, ◌-◌, ◌%◌, List, [], ◌∷◌, ◌++◌, length, take, drop}
use Rattle.std.specs.List.{flat_map}
use Rattle.blog_event.specs.declared.event.Event as told
use Rattle.blog_event.specs.declared.event.Header.{Header}
use Rattle.blog_event.specs.Event.{Event, event_of, unplaced}
use Rattle.blog_row.specs.TableMap.{layout_of}
use Rattle.blog_trans.specs.Changes.{Change, Updated, row_by, table_of}
use Rattle.blog_flash.specs.code.LaidOut.{text_from}
use Rattle.blog_net.specs.declared.update.NetUpdate.{NetUpdate}

-- the change of an update: the table of its map, the row of its image before, and that of its image after
abbrev pub net_change : NetUpdate → Change
net_change u = Updated (table_of u.map.body.now) (row_by (layout_of u.map.body.now) u.before.now) (row_by (layout_of u.map.body.now) u.after.now)

-- ---- the log

-- an event by its header and its body
abbrev pub headed : Header → List ℕ → Event
headed h body = record { timestamp = h.timestamp; kind = h.kind; server_id = h.server_id; log_pos = 0; flags = h.flags; body = body }

-- the end flag is bit 0 of the first byte
abbrev pub flagged : List ℕ → List ℕ
flagged [] = []
flagged (flags ∷ rest) = (flags - flags % 2 + 1) ∷ rest

-- the first bytes of a rows event's body, which ends its statement: the flags are behind the six bytes of the table id
abbrev pub as_last : List ℕ → List ℕ
as_last front = take 6 front ++ flagged (drop 6 front)

abbrev pub update_body : NetUpdate → List ℕ
update_body u = as_last u.front.now ++ (u.before.now ++ u.after.now)

-- what is written for an update: its table map, and a rows event with its row
abbrev pub update_events : NetUpdate → List Event
update_events u = unplaced (event_of u.map) ∷ headed u.rows (update_body u) ∷ []

-- the transaction of the updates
abbrev pub net_events : told.Event → told.Event → List NetUpdate → List Event
net_events begin end us = unplaced (event_of begin) ∷ (flat_map update_events us ++ unplaced (event_of end) ∷ [])

-- it is written after the first bytes of a log, which have the format description
unfoldable pub net_text : List ℕ → told.Event → told.Event → List NetUpdate → List ℕ
net_text front begin end us = front ++ text_from (length front) (net_events begin end us)
