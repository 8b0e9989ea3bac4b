use Rattle.std.proofs.Common.{Option, subst, sym}
use Rattle.blog_device.specs.Watched.{device_of}
use Rattle.blog_source.specs.code.SourceView.{end_of, fault_of, log_of}
use Rattle.blog_trans.specs.Selection.{selection_of}
use Rattle.undo_run.specs.Writes.{WritesHanded}
use Rattle.undo_run.specs.code.NamesView.{names_told}
use Rattle.undo_run.specs.declared.request.UnitRequest.{UnitRequest}
use Rattle.undo_run.proofs.written_part.write_read.Goals as goal

pub returns-in-None-clause-writes : goal.returns-in-None-clause-writes
returns-in-None-clause-writes g c =
    let logs = c.args.logs.now in
    subst (λ (o : Option UnitRequest). WritesHanded c.args.looks g.L.Read.remaining c.args.later.items c.args.writing.now (names_told logs.names) (selection_of c.args.part.now) o
    (log_of logs.source) (end_of logs.source) (fault_of logs.source) (g.W.Write.contents (device_of c.args.writer.now)) (g.W.Write.contents (device_of c.write_all.new.writer)) c.write_all.result) (sym c.in-None.is)
    c.write_all.ensures.writes

pub returns-in-Some-clause-writes : goal.returns-in-Some-clause-writes
returns-in-Some-clause-writes g c =
    let logs = c.args.logs.now in
    subst (λ (o : Option UnitRequest). WritesHanded c.args.looks g.L.Read.remaining c.args.later.items c.args.writing.now (names_told logs.names) (selection_of c.args.part.now) o
    (log_of logs.source) (end_of logs.source) (fault_of logs.source) (g.W.Write.contents (device_of c.args.writer.now)) (g.W.Write.contents (device_of c.write_units.new.writer)) c.write_units.result) (sym c.in-Some.is)
    c.write_units.ensures.writes
