use Rattle.std.proofs.Common.{[], ◌∷◌, option_to_list}
use Rattle.blog_event.specs.Event.{event_of, unplaced}
use Rattle.blog_left_out.specs.code.PutView.{headed}
use Rattle.blog_left_out.specs.code.StepView.{held_value}
use Rattle.blog_left_out.proofs.Putting.{puts-behind, refuses-more}
use Rattle.blog_left_out.proofs.writing.put_three.Goals as goal

pub returns-in-Ok : goal.returns-in-Ok
returns-in-Ok g c =
    puts-behind c.args.out.now.items c.put_held.new.out.items c.put_two.new.out.items (option_to_list (held_value c.args.held)) (unplaced (event_of c.args.map.now) ∷ headed c.args.header c.args.body.now ∷ [])
    c.put_two.result c.in-Ok.ensures c.put_two.ensures

pub returns-in-Err : goal.returns-in-Err
returns-in-Err g c =
    refuses-more c.args.out.now.items (option_to_list (held_value c.args.held)) (unplaced (event_of c.args.map.now) ∷ headed c.args.header c.args.body.now ∷ []) c.in-Err.fault c.in-Err.ensures
