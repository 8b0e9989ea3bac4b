use Rattle.std.proofs.Common.{Some, None, sym, ◌∙◌}
use Rattle.jiff.specs.Words.{plain_zone}
use Rattle.blog_device.specs.Watched.{device_of}
use Rattle.list_run.proofs.Alone.{alone-begun, alone-listed, alone-unopened}
use Rattle.list_run.proofs.listed.list_alone.Goals as goal

pub returns-in-Ok-None-clause-text : goal.returns-in-Ok-None-clause-text
returns-in-Ok-None-clause-text g c =
    alone-listed g.R.Read.remaining c.args.style.now.form (plain_zone c.args.style.now.zone) c.args.style.now.gtids c.args.how c.args.wanted.now c.args.style.now.sorting c.args.given c.in-Ok.source None
    (g.W.Write.contents (device_of c.args.writer.now)) (g.W.Write.contents (device_of c.list_counted.new.writer))
    c.in-Ok.ensures.opens c.in-Ok-None.ensures.text (sym c.in-Ok-None.field-0-is ∙ c.in-Ok-None.ensures.end)

pub returns-in-Ok-Some-clause-text : goal.returns-in-Ok-Some-clause-text
returns-in-Ok-Some-clause-text g c =
    alone-listed g.R.Read.remaining c.args.style.now.form (plain_zone c.args.style.now.zone) c.args.style.now.gtids c.args.how c.args.wanted.now c.args.style.now.sorting c.args.given c.in-Ok.source (Some c.in-Ok-Some.fault)
    (g.W.Write.contents (device_of c.args.writer.now)) (g.W.Write.contents (device_of c.list_counted.new.writer))
    c.in-Ok.ensures.opens c.in-Ok-Some.ensures.text (sym c.in-Ok-Some.field-0-is ∙ c.in-Ok-Some.ensures.end)

pub returns-in-Ok-clause-text : goal.returns-in-Ok-clause-text
returns-in-Ok-clause-text g c =
    alone-begun g.R.Read.remaining c.args.style.now.form (plain_zone c.args.style.now.zone) c.args.style.now.gtids c.args.how c.args.wanted.now c.args.style.now.sorting c.args.given c.in-Ok.source
    (g.W.Write.contents (device_of c.args.writer.now)) (g.W.Write.contents (device_of c.list_counted.new.writer))
    c.in-Ok.ensures.opens c.in-Err-list_counted.ensures.beginning

pub returns-clause-text : goal.returns-clause-text
returns-clause-text g c =
    alone-unopened g.row.A.Denot g.R.Read.remaining c.args.style.now.form (plain_zone c.args.style.now.zone) c.args.style.now.gtids c.args.how c.args.wanted.now c.args.style.now.sorting c.args.given
    (g.W.Write.contents (device_of c.args.writer.now)) c.in-Err.fault c.in-Err.ensures.opens
