-- A log in which the groups of ranges are gathered.
use Rattle.std.specs.Prelude.{ℕ, List}
use Rattle.std.specs.List.{flat_map}
use Rattle.blog_event.specs.File.{AreBytes, read}
use Rattle.blog_trans.specs.Acceptance.{IsAccepted}
use Rattle.blog_trans.specs.Changes.{Change, changes}
use Rattle.blog_trans.specs.Groups.{Transaction, groups}
use Rattle.blog_trans.specs.Selection.{Selection}
use Rattle.blog_flash.specs.Texts.{laid_out_after}

-- a range of a log: its bytes, and a selection
pub record Range : Type 0 where
  pub bytes : List ℕ
  pub sel : Selection

-- it is accepted
abbrev pub IsSoundRange : Range → Type 0
IsSoundRange r = AreBytes r.bytes × IsAccepted r.bytes r.sel

-- its groups and its changes
abbrev pub range_groups : Range → List Transaction
range_groups r = groups r.bytes r.sel

abbrev pub range_changes : Range → List Change
range_changes r = changes r.bytes r.sel

-- the groups of ranges, one range after the other
abbrev pub groups_of : List Range → List Transaction
groups_of rs = flat_map range_groups rs

-- they are laid out behind the format description of a range's log
unfoldable pub gathered_text : Range → List Range → List ℕ
gathered_text first rs = laid_out_after (read first.bytes first.sel.stop) (groups_of rs)
