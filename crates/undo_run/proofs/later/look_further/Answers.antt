use Rattle.std.proofs.Common.{false, [], ◌∷◌}
use Rattle.blog_choice.specs.code.ChosenView.{names_choice}
use Rattle.blog_later.specs.code.LookedView.{left_before}
use Rattle.undo_run.specs.code.Leaves.{Records}
use Rattle.undo_run.proofs.Judged.{all-judged, not-looked}
use Rattle.undo_run.proofs.later.look_further.Goals as goal

pub returns-in-Ok : goal.returns-in-Ok
returns-in-Ok g c t m named seen counts =
    all-judged g.L.Read.remaining c.args.later.items t (left_before c.args.left.now c.args.lists) (names_choice c.args.names.now) m (Records false (left_before c.args.left.now c.args.lists) c.untracked-tracked.result c.look_into_all.new.tracked) c.in-Ok.all c.judged.result named counts
    (c.in-Ok.ensures m (t.rest ∷ []) seen) (λ n ls are. c.judged.ensures.judges n (names_choice c.args.names.now) ls are) c.judged.ensures.same

pub returns : goal.returns
returns g c t m named seen counts =
    not-looked g.L.Read.remaining c.args.later.items t (left_before c.args.left.now c.args.lists) (names_choice c.args.names.now) m (t.rest ∷ []) (Records false (left_before c.args.left.now c.args.lists) c.untracked-tracked.result c.look_into_all.new.tracked) c.in-Err.fault (c.in-Err.ensures m (t.rest ∷ []) seen)
