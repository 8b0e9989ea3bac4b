use Rattle.std.proofs.Common.{[], ◌∷◌, ◌++◌}
use Rattle.std.specs.List.{flat_map}
use Rattle.blog_event.specs.Event.{event_of, unplaced}
use Rattle.blog_net.specs.Net.{update_events}
use Rattle.blog_net.proofs.Appending.{puts-behind, refuses-more}
use Rattle.blog_net.proofs.putting.put_transaction.Goals as goal

pub returns-in-Ok : goal.returns-in-Ok
returns-in-Ok g c =
    puts-behind c.args.out.now.items c.put.new.out.items c.put_rest.new.out.items (unplaced (event_of c.args.begin.now) ∷ []) (flat_map update_events c.args.updates.now ++ unplaced (event_of c.args.end.now) ∷ [])
    c.put_rest.result c.in-Ok.ensures c.put_rest.ensures

pub returns-in-Err : goal.returns-in-Err
returns-in-Err g c =
    refuses-more c.args.out.now.items (unplaced (event_of c.args.begin.now) ∷ []) (flat_map update_events c.args.updates.now ++ unplaced (event_of c.args.end.now) ∷ []) c.in-Err.fault c.in-Err.ensures
