-- What is promised of rows that are followed.
use Rattle.std.specs.Prelude.{◌≡◌, ℕ, Bool, true, false, List, ◌++◌, map}
use Rattle.std.specs.List.{flat_map}
use Rattle.blog_differences.specs.Outside.{outside_by}
use Rattle.blog_later.specs.Among.{Step, marked_in, others_of, selected_in}
use Rattle.blog_later.specs.Later.{changes_in}
use Rattle.blog_later.specs.Prints.{HavePrints, prints_left}
use Rattle.blog_merge.specs.Merge.{pairs_of}
use Rattle.blog_merge.specs.Pairs.{Pair}
use Rattle.blog_pairs.specs.Steps.{pairs_with}
use Rattle.blog_trans.specs.Changes.{Change}
use Rattle.blog_trans.specs.Selection.{Selection}
use Rattle.blog_undo.specs.Mixed.{TableRow}
use Rattle.blog_units.specs.Units.{Facts}
use Rattle.blog_untouched.specs.Steps.{unit_step}
use Rattle.blog_followed.specs.Following.{HasPrints, are_followed, others_in, prints_touched, touching}

-- The changes that take followed rows make the same pairs as all changes, and the real rows of these pairs are followed.
pub record MakesPairs (f : TableRow → ℕ) (prints : List ℕ) (cs : List Change) (ps : List Pair) : Type 0 where
  pub same : pairs_with false (touching f prints cs) ps ≡ pairs_with false cs ps
  pub followed : are_followed f (prints_touched f prints cs) (pairs_with false cs ps) ≡ true

-- if the real rows of the pairs before were followed
abbrev pub TouchingSuffices : (TableRow → ℕ) → List ℕ → List Change → List Pair → Type 0
TouchingSuffices f prints cs ps = are_followed f prints ps ≡ true → MakesPairs f prints cs ps

-- The real rows of the pairs that steps make without some selected changes are followed, if at first the rows were that all selected changes leave.
abbrev pub FollowsPairs : (TableRow → ℕ) → List ℕ → List Bool → List Step → Type 0
FollowsPairs f prints marks ss = HasPrints prints (prints_left f (flat_map (λ cs. cs) (selected_in ss)))
    → are_followed f (prints_touched f prints (others_in ss)) (pairs_of (outside_by marks (marked_in ss))) ≡ true

-- of the units of a log: the changes of others are those of the units that aren't chosen
abbrev pub AreOfOthers : (Facts → Bool) → Selection → List ℕ → List Facts → Type 0
AreOfOthers p sel bytes us = others_in (map (unit_step p sel bytes) us) ≡ changes_in bytes (others_of p us)

-- Of lists with the same fingerprints, rows are followed alike.
pub record FollowsAlike (f : TableRow → ℕ) (prints kept : List ℕ) (cs : List Change) (ps : List Pair) : Type 0 where
  pub touched : HavePrints (prints_touched f prints cs) (prints_touched f kept cs)
  pub changes : touching f kept cs ≡ touching f prints cs
  pub pairs : are_followed f kept ps ≡ are_followed f prints ps

-- through several lists of changes, one after the other
pub record FollowsOn (f : TableRow → ℕ) (prints : List ℕ) (cs ds : List Change) : Type 0 where
  pub touched : prints_touched f prints (cs ++ ds) ≡ prints_touched f (prints_touched f prints cs) ds
  pub changes : touching f prints (cs ++ ds) ≡ touching f prints cs ++ touching f (prints_touched f prints cs) ds
