-- The log is read, and put behind those before it.
use Rattle.std.proofs.Common.{refl, sym, ap, ◌∙◌}
use Rattle.blog_device.specs.Watched.{device_of}
use Rattle.blog_source.specs.code.SourceView.{end_of}
use Rattle.undo_run.specs.Several.{with_name}
use Rattle.undo_run.specs.code.NamesView.{names_told}
use Rattle.undo_run.proofs.Joining.{failed-log, joined-log, unopened-log}
use Rattle.undo_run.proofs.several.append_log.Goals as goal

pub returns-in-Err : goal.returns-in-Err
returns-in-Err g c j joined =
    unopened-log g.row.A.Denot g.row.A.Denot g.L.Read.remaining c.args.stop j c.args.n c.args.given (g.L.Read.remaining (device_of c.open_log.new.reader)) c.in-Err.fault c.in-Err.ensures.opens

pub returns-in-Ok-append : goal.returns-in-Ok-append
returns-in-Ok-append g c j joined =
    let (bytes, reads, opened) = c.in-Ok.ensures.opens in
    let made = c.in-Ok-append.ensures in
    joined-log g.L.Read.remaining c.args.stop j c.args.n c.args.given c.as_bytes.result.now (g.L.Read.remaining (device_of c.open_log.new.reader)) c.args.logs
    (record { source = c.in-Ok-append.source; names = c.in_ok-with-in-Ok-append.field-0 }) c.in-Ok.further joined c.in-Ok.ensures.opens made.log made.end made.fault made.time made.alike made.ordered
    (c.in_ok-with-in-Ok-append.ensures ∙ ap (λ n. with_name (names_told c.args.logs.names) n c.as_bytes.result.now) c.end-start.ensures) c.as_bytes.ensures.value (made.opens joined.opens)

pub returns : goal.returns
returns g c j joined =
    failed-log {A = g.row.A.Denot} g.L.Read.remaining c.args.stop j c.args.n c.args.given (g.L.Read.remaining (device_of c.open_log.new.reader)) c.args.logs c.in-Ok.further c.in-Err-append.fault
    c.further_fault.result joined c.in-Ok.ensures.opens c.in-Err-append.ensures.refused c.further_fault.ensures
