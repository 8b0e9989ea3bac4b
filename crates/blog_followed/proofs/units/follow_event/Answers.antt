use Rattle.std.proofs.Common.{List, sym, subst}
use Rattle.blog_trans.specs.Changes.{Change}
use Rattle.blog_followed.specs.code.FollowedView.{Follows}
use Rattle.blog_followed.proofs.OneRow.{none-changed}
use Rattle.blog_followed.proofs.Remaining.{follows-none}
use Rattle.blog_followed.proofs.units.follow_event.Goals as goal

pub returns-in_default : goal.returns-in_default
returns-in_default g c =
    subst (λ (cs : List Change). Follows c.args.keeps c.args.left.now cs c.args.followed.now c.args.followed.now) (sym (none-changed c.args.event.now c.in_default.not-Rows))
    (follows-none c.args.keeps c.args.left.now c.args.followed.now)

pub returns : goal.returns
returns g c = rw c.in-Rows.is c.follow_rows.ensures
