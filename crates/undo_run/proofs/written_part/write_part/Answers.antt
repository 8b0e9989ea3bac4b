-- The logs are read, and their part is written; a fault is told by its log.
use Rattle.std.proofs.Common.{sym, ◌∙◌}
use Rattle.std.proofs.KnownBytes.{Keeps-refl}
use Rattle.blog_device.specs.Watched.{device_of}
use Rattle.blog_trans.specs.Selection.{selection_of}
use Rattle.undo_run.proofs.Stages.{not-read, read-located, read-without-start, read-written}
use Rattle.undo_run.proofs.written_part.write_part.Goals as goal

pub returns-in-Err-clause-writes : goal.returns-in-Err-clause-writes
returns-in-Err-clause-writes g c =
    not-read c.args.looks g.L.Read.remaining c.args.later.items c.args.more.items c.args.writing.now c.args.name.now (selection_of c.args.part.now) c.args.asked c.read_to.result
    (g.R.Read.remaining (device_of c.args.reader.now)) (g.R.Read.remaining (device_of c.open_logs.new.reader)) _ _ c.in-Err.fault c.in-Err.ensures.opens (Keeps-refl (g.W.Write.contents (device_of c.args.writer.now)))

pub returns-then-not-starts_in_first-clause-writes : goal.returns-then-not-starts_in_first-clause-writes
returns-then-not-starts_in_first-clause-writes g c =
    read-without-start {A = g.row.A.Denot} c.args.looks g.L.Read.remaining c.args.later.items c.args.more.items c.args.writing.now c.args.name.now (selection_of c.args.part.now) c.args.asked c.read_to.result
    (g.R.Read.remaining (device_of c.args.reader.now)) (g.R.Read.remaining (device_of c.open_logs.new.reader)) _ _ c.in-Ok.logs c.read_to.ensures c.in-Ok.ensures.opens
    (sym c.if-not-starts_in_first.true ∙ c.starts_in_first.ensures) (Keeps-refl (g.W.Write.contents (device_of c.args.writer.now)))

pub returns-in-Ok-write_read-clause-writes : goal.returns-in-Ok-write_read-clause-writes
returns-in-Ok-write_read-clause-writes g c =
    read-written {A = g.row.A.Denot} c.args.looks g.L.Read.remaining c.args.later.items c.args.more.items c.args.writing.now c.args.name.now (selection_of c.args.part.now) (selection_of c.part_among-inside.result)
    c.args.asked c.read_to.result (g.R.Read.remaining (device_of c.args.reader.now)) (g.R.Read.remaining (device_of c.open_logs.new.reader)) (g.W.Write.contents (device_of c.args.writer.now))
    (g.W.Write.contents (device_of c.write_read.new.writer)) c.in-Ok.logs c.in-Ok-write_read.told c.read_to.ensures c.in-Ok.ensures.opens (sym c.if-not-starts_in_first.false ∙ c.starts_in_first.ensures)
    c.part_among-inside.ensures c.in-Ok-write_read.ensures.writes

pub returns-clause-writes : goal.returns-clause-writes
returns-clause-writes g c =
    read-located {A = g.row.A.Denot} c.args.looks g.L.Read.remaining c.args.later.items c.args.more.items c.args.writing.now c.args.name.now (selection_of c.args.part.now) (selection_of c.part_among-inside.result)
    c.args.asked c.read_to.result (g.R.Read.remaining (device_of c.args.reader.now)) (g.R.Read.remaining (device_of c.open_logs.new.reader)) (g.W.Write.contents (device_of c.args.writer.now))
    (g.W.Write.contents (device_of c.write_read.new.writer)) c.in-Ok.logs c.in-Err-write_read.fault c.located_fault.result c.read_to.ensures c.in-Ok.ensures.opens
    (sym c.if-not-starts_in_first.false ∙ c.starts_in_first.ensures) c.part_among-inside.ensures c.in-Err-write_read.ensures.writes c.located_fault.ensures
