use Rattle.std.proofs.Common.{[], ◌∷◌}
use Rattle.blog_event.specs.Event.{event_of, unplaced}
use Rattle.blog_left_out.specs.code.PutView.{headed}
use Rattle.blog_left_out.proofs.Putting.{puts-behind, refuses-more}
use Rattle.blog_left_out.proofs.writing.put_two.Goals as goal

pub returns-in-Ok : goal.returns-in-Ok
returns-in-Ok g c =
    puts-behind c.args.out.now.items c.put.new.out.items c.put-in-Ok.new.out.items (unplaced (event_of c.args.map.now) ∷ []) (headed c.args.header c.args.body.now ∷ []) c.put-in-Ok.result c.in-Ok.ensures c.put-in-Ok.ensures

pub returns-in-Err : goal.returns-in-Err
returns-in-Err g c =
    refuses-more c.args.out.now.items (unplaced (event_of c.args.map.now) ∷ []) (headed c.args.header c.args.body.now ∷ []) c.in-Err.fault c.in-Err.ensures
