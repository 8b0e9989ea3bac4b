use Rattle.std.proofs.Common.{false, ap, ◌∙◌}
use Rattle.blog_followed.specs.code.FollowedView.{kept_told}
use Rattle.blog_pairs.specs.Steps.{pairs_with}
use Rattle.undo_run.proofs.merged.pairs_with_later.Goals as goal

pub returns-in-Ok-add_to : goal.returns-in-Ok-add_to
returns-in-Ok-add_to g c p chosen = c.in-Ok-add_to.ensures ∙ ap (pairs_with false (kept_told c.args.followed.now)) (c.in-Ok.ensures p chosen)
