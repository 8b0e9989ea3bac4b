-- The logs that are written: groups laid out behind the source's format description.
use Rattle.std.specs.Prelude.{ℕ, ◌+◌, Bool, true, false, List, [], ◌∷◌, ◌++◌}
use Rattle.std.specs.List.{flat_map}
use Rattle.blog_event.specs.Event.{Event, event_size}
use Rattle.blog_event.specs.File.{file_text, read}
use Rattle.blog_row.specs.RowsKind.{number_of_kind}
use Rattle.blog_row.specs.RowsWriting.{written_body}
use Rattle.blog_trans.specs.Selection.{Selection}
use Rattle.blog_trans.specs.Groups.{RowsEvent, Statement, Transaction, groups}
use Rattle.blog_flash.specs.Reversal.{reversed}

-- a rows event, the last of its statement or not; its header keeps timestamp, server id and flags
abbrev pub rows_event : Bool → RowsEvent → Event
rows_event last r = record {
  timestamp = r.timestamp;
  kind = number_of_kind r.content.kind;
  server_id = r.server_id;
  log_pos = 0;
  flags = r.header_flags;
  body = written_body last r.content;
}

abbrev pub rows_events : List RowsEvent → List Event
rows_events [] = []
rows_events (r ∷ []) = rows_event true r ∷ []
rows_events (r ∷ s ∷ rows) = rows_event false r ∷ rows_events (s ∷ rows)

abbrev pub statement_events : Statement → List Event
statement_events s = s.maps ++ rows_events s.rows

abbrev pub transaction_events : Transaction → List Event
transaction_events t = t.begin ∷ (flat_map statement_events t.statements ++ t.end ∷ [])

abbrev pub group_events : List Transaction → List Event
group_events ts = flat_map transaction_events ts

-- each log_pos is the position at which its event ends
abbrev pub with_log_pos : ℕ → List Event → List Event
with_log_pos pos [] = []
with_log_pos pos (e ∷ es) = record e { log_pos = pos + event_size e } ∷ with_log_pos (pos + event_size e) es

-- the format description as it is, then the groups
unfoldable pub laid_out : Event → List Transaction → List ℕ
laid_out format ts = file_text (format ∷ with_log_pos (4 + event_size format) (group_events ts))

-- behind the first of these events
abbrev pub laid_out_after : List Event → List Transaction → List ℕ
laid_out_after [] ts = []
laid_out_after (format ∷ events) ts = laid_out format ts

-- the selection in normal form
unfoldable pub normal_text : List ℕ → Selection → List ℕ
normal_text bytes sel = laid_out_after (read bytes sel.stop) (groups bytes sel)

-- the log that undoes the selection
unfoldable pub flashback_text : List ℕ → Selection → List ℕ
flashback_text bytes sel = laid_out_after (read bytes sel.stop) (reversed (groups bytes sel))
