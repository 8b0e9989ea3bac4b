use Rattle.std.proofs.Common.{ℕ, List, subst}
use Rattle.blog_device.specs.Watched.{device_of}
use Rattle.blog_flash.specs.Runs.{IsWritten}
use Rattle.blog_sql.proofs.Grouping.{groups-printed}
use Rattle.blog_sql.proofs.Whole.{is-written}
use Rattle.blog_sql.proofs.written_sql.write_sql.Goals as goal

pub returns-clause-written : goal.returns-clause-written
returns-clause-written g c ts is have =
    let had = g.W.Write.contents (device_of c.args.writer.now) in
    let has = g.W.Write.contents (device_of c.write_events.new.writer) in
    subst (λ (text : List ℕ). IsWritten had has text c.write_events.result) (groups-printed c.args.how.now c.args.front.now ts _ is have)
    (is-written had has _ c.write_events.result c.write_events.ensures.written c.write_events.ensures.beginning c.write_events.ensures.fault)
