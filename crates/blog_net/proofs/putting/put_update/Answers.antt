use Rattle.std.proofs.Common.{ℕ, List, [], ◌∷◌, subst, ◌∙◌}
use Rattle.blog_event.specs.Event.{event_of, unplaced}
use Rattle.blog_net.specs.Net.{headed}
use Rattle.blog_net.specs.code.PutView.{Puts}
use Rattle.blog_net.proofs.Appending.{puts-behind}
use Rattle.blog_net.proofs.putting.put_update.Goals as goal

pub returns-in-Ok-put : goal.returns-in-Ok-put
returns-in-Ok-put g c =
    let u = c.args.update.now in
    subst (λ (own : List ℕ). Puts c.args.out.now.items (unplaced (event_of u.map) ∷ headed u.rows own ∷ []) c.put-in-Ok-put.new.out.items c.put-in-Ok-put.result) (c.deref.ensures.value ∙ c.in-Ok.ensures)
    (puts-behind c.args.out.now.items c.put.new.out.items c.put-in-Ok-put.new.out.items (unplaced (event_of u.map) ∷ []) (headed u.rows c.deref.result.now ∷ []) c.put-in-Ok-put.result c.in-Ok-put.ensures c.put-in-Ok-put.ensures)
