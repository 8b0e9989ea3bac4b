use Rattle.std.proofs.Common.{refl}
use Rattle.blog_device.specs.Watched.{device_of}
use Rattle.undo_run.proofs.Joining.{first-joined}
use Rattle.undo_run.proofs.several.open_first.Goals as goal

pub returns-in-Ok-clause-opens : goal.returns-in-Ok-clause-opens
returns-in-Ok-clause-opens g c =
    first-joined c.args.stop c.args.name.now c.args.name.now (g.R.Read.remaining (device_of c.args.reader.now)) (g.R.Read.remaining (device_of c.open_log.new.reader))
    (record { source = c.in-Ok.source; names = c.one.result }) c.in-Ok.ensures.opens c.one.ensures refl
