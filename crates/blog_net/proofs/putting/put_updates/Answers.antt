use Rattle.blog_net.proofs.Appending.{left-update, update-refused}
use Rattle.blog_net.proofs.putting.put_updates.Goals as goal

pub loop-update-preserved : goal.loop-update-preserved
loop-update-preserved g c =
    left-update c.args.out.now.items c.loop-update.out.items c.put_update.new.out.items c.args.updates.now c.loop-update.update-index _ c.loop-update-test.true c.in-Ok.ensures c.loop-update.invariant

pub returns-in-Err : goal.returns-in-Err
returns-in-Err g c =
    update-refused c.args.out.now.items c.loop-update.out.items c.args.updates.now c.loop-update.update-index _ c.in-Err.fault c.loop-update-test.true c.in-Err.ensures c.loop-update.invariant
