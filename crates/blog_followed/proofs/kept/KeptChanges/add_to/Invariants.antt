use Rattle.std.proofs.Common.{◌≡◌, drop, false}
use Rattle.blog_pairs.specs.Steps.{pairs_with}
use Rattle.blog_pairs.specs.code.TableView.{pairs_told}
use Rattle.blog_followed.specs.code.FollowedView.{kept_in}
use Rattle.blog_followed.specs.code.KeptView.{bodies_of, changes_told}
use Rattle.blog_followed.proofs.kept.KeptChanges.add_to.Given as goal

-- the changes from the index on are still to add
abbrev pub invariant-loop-change : goal.invariant-loop-change
invariant-loop-change g l =
    pairs_with false (changes_told (bodies_of l.self.maps.items) (drop l.change-index l.self.changes.items)) (pairs_told l.pairs) ≡ pairs_with false (kept_in l.self) (pairs_told l.fn.pairs)
