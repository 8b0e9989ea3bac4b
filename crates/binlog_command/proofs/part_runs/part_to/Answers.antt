use Rattle.std.proofs.Common.{List, Ok, ℕ, subst}
use Rattle.blog_device.specs.Watched.{device_of}
use Rattle.blog_trans.specs.Selection.{selection_of}
use Rattle.undo_run.specs.Writes.{WritesPart}
use Rattle.binlog_command.proofs.Telling.{told-of}
use Rattle.binlog_command.proofs.part_runs.part_to.Goals as goal

pub returns-in-Ok-clause-writes : goal.returns-in-Ok-clause-writes
returns-in-Ok-clause-writes g c =
    let task = c.args.task.now in
    subst (λ (name : List ℕ). WritesPart task.looks g.L.Read.remaining c.args.later.items c.args.writing.now name c.args.further.items (selection_of task.part) c.args.units (g.D.Read.remaining (device_of c.args.reader.now)) (g.D.Read.remaining (device_of c.write_part.new.reader))
    (g.W.Write.contents (device_of c.args.writer.now)) (g.W.Write.contents (device_of c.write_part.new.writer)) (Ok c.in-Ok.told)) c.as_bytes.ensures.value c.in-Ok.ensures.writes

pub returns-in-Ok-clause-told : goal.returns-in-Ok-clause-told
returns-in-Ok-clause-told g c =
    let task = c.args.task.now in
    let old = g.D.Read.remaining (device_of c.args.reader.now) in
    let new = g.D.Read.remaining (device_of c.write_part.new.reader) in
    let had = g.W.Write.contents (device_of c.args.writer.now) in
    let has = g.W.Write.contents (device_of c.write_part.new.writer) in
    told-of task.looks g.L.Read.remaining c.args.later.items c.args.further.items c.args.writing.now task.sql.log.now (selection_of task.part) c.args.units old new had has c.in-Ok.told
    (subst (λ (name : List ℕ). WritesPart {A = g.row.A.Denot} task.looks g.L.Read.remaining c.args.later.items c.args.writing.now name c.args.further.items (selection_of task.part) c.args.units old new had has (Ok c.in-Ok.told))
    c.as_bytes.ensures.value c.in-Ok.ensures.writes)
