use Rattle.std.proofs.Common.{[]}
use Rattle.std.proofs.KnownBytes.{Keeps-refl}
use Rattle.blog_device.specs.Watched.{device_of}
use Rattle.blog_source.specs.code.SourceView.{end_of, fault_of, log_of}
use Rattle.blog_trans.specs.Selection.{selection_of}
use Rattle.blog_trans.specs.code.IndexView.{index_bytes, index_selection}
use Rattle.undo_run.specs.Parts.{IsSound, Refuses, damage_before, part_taken}
use Rattle.undo_run.specs.Taken.{plan_taken}
use Rattle.undo_run.specs.code.NamesView.{names_told}
use Rattle.undo_run.proofs.Stages.{all-refused, not-free, taken-written}
use Rattle.undo_run.proofs.written_part.write_all.Goals as goal

pub returns-in-Err-clause-writes : goal.returns-in-Err-clause-writes
returns-in-Err-clause-writes g c =
    let part = selection_of c.args.part.now in
    let handed = log_of c.args.source.now in
    let end = end_of c.args.source.now in
    let fault = fault_of c.args.source.now in
    let damage = damage_before c.args.looks part end fault in (
      [],
      all-refused c.args.looks g.L.Read.remaining c.args.later.items c.args.writing.now (plan_taken c.args.looks c.args.writing.now (names_told c.args.logs.now) (part_taken (names_told c.args.logs.now) part handed end fault)) (IsSound part handed end damage) _ _ part handed end damage c.in-Err.fault
          c.in-Err.ensures.refused (Keeps-refl (g.W.Write.contents (device_of c.args.writer.now))),
    )

pub returns-in-Err-look_if-clause-writes : goal.returns-in-Err-look_if-clause-writes
returns-in-Err-look_if-clause-writes g c =
    let part = selection_of c.args.part.now in
    let handed = log_of c.args.source.now in
    let end = end_of c.args.source.now in
    let fault = fault_of c.args.source.now in
    let damage = damage_before c.args.looks part end fault in (
      [],
      not-free c.args.looks g.L.Read.remaining c.args.later.items c.args.writing.now (names_told c.args.logs.now) (part_taken (names_told c.args.logs.now) part handed end fault) (IsSound part handed end damage) (Refuses {A = g.row.A.Denot} part handed end damage) _ _
          c.in-Err-look_if.fault c.in-Ok.ensures.sound c.in-Err-look_if.ensures (Keeps-refl (g.W.Write.contents (device_of c.args.writer.now))),
    )

pub returns-clause-writes : goal.returns-clause-writes
returns-clause-writes g c =
    let part = selection_of c.args.part.now in
    let handed = log_of c.args.source.now in
    let end = end_of c.args.source.now in
    let fault = fault_of c.args.source.now in
    let damage = damage_before c.args.looks part end fault in (
      [],
      taken-written c.args.looks g.L.Read.remaining c.args.later.items c.args.writing.now (names_told c.args.logs.now) (part_taken (names_told c.args.logs.now) part handed end fault) (IsSound part handed end damage) (Refuses {A = g.row.A.Denot} part handed end damage) _ _
          c.in-Ok-look_if.since (index_bytes c.in-Ok.index) (index_selection c.in-Ok.index) c.write_index.result c.in-Ok.ensures.sound c.in-Ok-look_if.ensures c.in-Ok.ensures.bytes c.in-Ok.ensures.selection c.write_index.ensures.writes,
    )
