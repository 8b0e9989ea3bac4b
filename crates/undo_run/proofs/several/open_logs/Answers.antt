-- One log alone, or a first one and others behind it.
use Rattle.std.proofs.Common.{◌≡◌, ◌||◌, Bool, ap, sym, ◌∙◌}
use Rattle.std.proofs.Math.Bool.{or-false}
use Rattle.blog_device.specs.Watched.{device_of, has_failed}
use Rattle.undo_run.proofs.Joining.{last-opened, middle-unopened, none-failed, none-failed-last}
use Rattle.undo_run.proofs.several.open_logs.Goals as goal

pub returns-in-Err-append_logs-clause-opens : goal.returns-in-Err-append_logs-clause-opens
returns-in-Err-append_logs-clause-opens g c =
    middle-unopened g.row.A.Denot g.L.Read.remaining c.args.stop c.args.name.now c.pop.new.self.items c.args.more.items c.in-Some.last (g.R.Read.remaining (device_of c.args.reader.now))
    (g.R.Read.remaining (device_of c.open_first-2.new.reader)) c.in-Ok.first c.in-Err-append_logs.fault c.in-Some.ensures.items c.in-Ok.ensures.opens c.in-Err-append_logs.ensures

pub returns-in-Err-append_logs-clause-mark : goal.returns-in-Err-append_logs-clause-mark
returns-in-Err-append_logs-clause-mark g c =
    c.in-Ok.ensures.mark
    ∙ ap (λ (b : Bool). has_failed c.args.reader.now || b)
    (sym (none-failed g.row.A.Denot g.L.Read.remaining c.args.name.now c.pop.new.self.items (g.R.Read.remaining (device_of c.args.reader.now)) (g.R.Read.remaining (device_of c.open_first-2.new.reader)) c.in-Ok.first
    c.in-Err-append_logs.fault c.in-Ok.ensures.opens c.in-Err-append_logs.ensures))

pub returns-clause-opens : goal.returns-clause-opens
returns-clause-opens g c =
    last-opened g.row.A.Denot g.L.Read.remaining c.args.stop c.args.name.now c.pop.new.self.items c.args.more.items c.in-Some.last c.len-count.result (g.R.Read.remaining (device_of c.args.reader.now))
    (g.R.Read.remaining (device_of c.open_first-2.new.reader)) c.in-Ok.first c.in-Ok-append_logs.logs c.append_log.result c.in-Some.ensures.items (c.len-count.ensures ∙ c.args.more.ok.0) c.in-Ok.ensures.opens
    c.in-Ok-append_logs.ensures c.append_log.ensures

pub returns-clause-mark : goal.returns-clause-mark
returns-clause-mark g c =
    c.in-Ok.ensures.mark
    ∙ ap (λ (b : Bool). has_failed c.args.reader.now || b)
    (sym (none-failed-last g.row.A.Denot g.L.Read.remaining c.args.stop c.args.name.now c.pop.new.self.items c.in-Some.last c.len-count.result (g.R.Read.remaining (device_of c.args.reader.now))
    (g.R.Read.remaining (device_of c.open_first-2.new.reader)) c.in-Ok.first c.in-Ok-append_logs.logs c.append_log.result c.in-Ok.ensures.opens c.in-Ok-append_logs.ensures c.append_log.ensures))
