use Rattle.std.proofs.Common.{◌≡◌, ◌++◌, List, map}
use Rattle.std.specs.List.{AllByRecursion}
use Rattle.blog_row.specs.TableMap.{Table}
use Rattle.blog_trans.specs.Changes.{Change, table_of}
use Rattle.blog_trans.specs.code.TablesView.{IsNumbered}
use Rattle.blog_trans.specs.code.StatementMaps.{used_maps}
use Rattle.blog_trans.specs.code.CountsView.{AreCounts}
use Rattle.blog_trans.proofs.counts.Counts.keep.Given as goal

-- the tables of the maps so far are taken
abbrev pub invariant-loop-map : goal.invariant-loop-map
invariant-loop-map g l = record {
  counts : (tables : List Table) (cs : List Change) (ts : List Table) → AllByRecursion (IsNumbered tables) (map (λ m. m.now) l.yielded) → AreCounts tables cs ts l.fn.self
      → AreCounts tables cs (ts ++ map (λ m. table_of m.body.now) (used_maps (map (λ m. m.now) l.yielded))) l.self;
  images : l.self.images ≡ l.fn.self.images;
}
