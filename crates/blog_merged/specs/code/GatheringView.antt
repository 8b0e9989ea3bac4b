-- What a contract sees of a log in which changes are gathered.
use Rattle.std.specs.Prelude.{◌≡◌, List}
use Rattle.blog_gathered.specs.Gathered.{Range, groups_of}
use Rattle.blog_gathered.specs.code.GatheredView.{IsGathered}
use Rattle.blog_gathered.specs.declared.gathered.Gathered.{Gathered}
use Rattle.blog_trans.specs.Changes.{Change, changes_of}

-- ranges are gathered there that have these changes together
pub record HasGathered {A : Type 0} (cs : List Change) (gathered : Gathered A) : Type 0 where
  pub first : Range
  pub ranges : List Range
  pub is : IsGathered first ranges gathered
  pub own : changes_of (groups_of ranges) ≡ cs
