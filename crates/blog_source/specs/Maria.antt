-- Events that only MariaDB writes (MariaDB Knowledge Base, "ANNOTATE_ROWS_EVENT", "BINLOG_CHECKPOINT_EVENT", "GTID_EVENT",
-- "GTID_LIST_EVENT", "START_ENCRYPTION_EVENT").
use Rattle.std.specs.Prelude.{ℕ, ◌%◌, ◌==◌, ◌&&◌, ◌||◌, nat_le, Bool, List, ◌++◌, length, replicate, slice_index, codes}
use Rattle.blog_event.specs.Event.{Event}

-- a type of events that change nothing: Annotate_rows (160), Binlog_checkpoint (161), Gtid_list (163); Start_encryption (164),
-- where it may be ignored
abbrev pub is_note : ℕ → Bool
is_note kind = (kind == 160) || ((kind == 161) || ((kind == 163) || (kind == 164)))

-- a Gtid event (type 162): its body has the number in 8 bytes, the domain in 4, flags in one, and what these say, or zeros, to
-- 19 bytes at the least
abbrev pub is_maria_gtid : ℕ → List ℕ → Bool
is_maria_gtid kind body = (kind == 162) && nat_le 19 (length body)

-- its unit has no end event, being a statement by itself (FL_STANDALONE, the lowest bit of the flags)
abbrev pub is_standalone : List ℕ → Bool
is_standalone body = slice_index body 12 % 2 == 1

-- the body of a Query event `BEGIN`: a thread id, an execution time, the length of a schema, an error code and the length of
-- status bytes, all zero in 13 bytes; no schema, and the zero byte behind it; the text
abbrev pub begin_body : List ℕ
begin_body = replicate 14 0 ++ codes "BEGIN"

-- the Query event (type 2) that begins the transaction of such a Gtid event; its flag 0x0008 says that no schema is used
abbrev pub begin_of : Event → Event
begin_of e = record e { kind = 2; flags = 8; body = begin_body }
