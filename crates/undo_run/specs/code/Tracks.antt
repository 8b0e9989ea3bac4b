-- What is recorded of changes of others, and rows that are followed through them.
use Rattle.std.specs.Prelude.{◌≡◌, ℕ, Bool, true, List, [], ◌++◌, length, map}
use Rattle.blog_followed.specs.Following.{prints_touched, touching}
use Rattle.blog_followed.specs.code.FollowedView.{kept_told}
use Rattle.blog_followed.specs.declared.followed.Followed.{Followed}
use Rattle.blog_later.specs.Among.{from_first, others_of}
use Rattle.blog_later.specs.Later.{changes_in}
use Rattle.blog_later.specs.Prints.{HavePrints, print_of}
use Rattle.blog_later.specs.code.LookedView.{left_before}
use Rattle.blog_later.specs.declared.left.LeftRows.{LeftRows}
use Rattle.blog_trans.specs.Changes.{Change}
use Rattle.blog_trans.specs.Selection.{Selection}
use Rattle.blog_units.specs.Units.{Facts}
use Rattle.blog_untouched.specs.Steps.{rows_in, taken_in, taken_of, unit_step}
use Rattle.undo_run.specs.declared.tracked.Tracked.{Tracked}

-- the rows with these fingerprints, and those followed before, are followed through changes, and the changes that take them are kept
pub record Follows {A : Type 0} (left : List ℕ) (cs : List Change) (old new : Followed A) : Type 0 where
  pub prints : HavePrints (prints_touched print_of (left ++ old.prints.keys) cs) (left ++ new.prints.keys)
  pub kept : kept_told new ≡ kept_told old ++ touching print_of (left ++ old.prints.keys) cs

-- the rows with these fingerprints were followed through changes, and none is kept
pub record HasFollowed {A : Type 0} (left : List ℕ) (cs : List Change) (followed : Followed A) : Type 0 where
  pub prints : HavePrints (prints_touched print_of left cs) (left ++ followed.prints.keys)
  pub none : kept_told followed ≡ []

-- the units of a log are recorded, of which those are chosen that pass a test, and the rows that these left are followed through the others
pub record TracksAmong {A : Type 0} (p : Facts → Bool) (sel : Selection) (bytes : List ℕ) (us : List Facts) (left : LeftRows A) (follows : Bool) (tracked : Tracked A) : Type 0 where
  pub rows : tracked.record.rows.items ≡ rows_in (map (unit_step p sel bytes) us)
  pub taken : tracked.record.taken.items ≡ taken_in (λ k. (left_before left k).rows) 0 0 (map (unit_step p sel bytes) us)
  pub same : tracked.follows ≡ follows
  pub followed : follows ≡ true → HasFollowed (left_before left 4294967295).rows (changes_in bytes (others_of p (from_first p us))) tracked.followed

-- The rows that changes of others take are recorded, of those with the fingerprints of rows that were left; and where rows are followed, they are
-- through these changes.
pub record Tracks {A : Type 0} (left : List ℕ) (cs : List Change) (old new : Tracked A) : Type 0 where
  pub rows : new.record.rows.items ≡ old.record.rows.items
  pub taken : new.record.taken.items ≡ old.record.taken.items ++ taken_of (length old.record.rows.items) left cs
  pub follows : new.follows ≡ old.follows
  pub followed : old.follows ≡ true → Follows left cs old.followed new.followed
