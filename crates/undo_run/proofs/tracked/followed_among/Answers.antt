use Rattle.std.proofs.Common.{◌≡◌, ℕ, ◌++◌, List, subst, ◌∙◌, append-nil}
use Rattle.blog_event.specs.code.LogView.{log_bytes}
use Rattle.blog_followed.specs.Following.{prints_touched}
use Rattle.blog_followed.specs.code.FollowedView.{all_left}
use Rattle.blog_later.specs.Among.{from_first, others_of}
use Rattle.blog_later.specs.Later.{changes_in, later_units}
use Rattle.blog_later.specs.Prints.{HavePrints, print_of}
use Rattle.blog_trans.specs.Changes.{Change}
use Rattle.undo_run.proofs.tracked.followed_among.Goals as goal

pub returns : goal.returns
returns g c p chosen asked =
    let left = all_left c.args.left.now in
    let bytes = log_bytes c.args.log.now in
    let cs : List Change = changes_in bytes (others_of p (from_first p (later_units bytes c.args.from))) in
    let none : left ++ c.new-followed.result.prints.keys ≡ left = (λ i. left ++ c.new-followed.ensures.prints i) ∙ append-nil left in
    let new = c.follow_among.new.self in record {
      prints = subst (λ (qs : List ℕ). HavePrints (prints_touched print_of qs cs) (left ++ new.prints.keys)) none (c.in_ok-follow_among.ensures.prints p chosen);
      none = c.in_ok-follow_among.ensures.kept ∙ c.new-followed.ensures.kept;
    }
