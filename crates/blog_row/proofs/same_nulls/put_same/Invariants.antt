use Rattle.std.proofs.Common.{◌≤◌, ℕ, List, length}
use Rattle.blog_row.specs.Column.{Layout}
use Rattle.blog_row.specs.code.ReversingView.{Written}
use Rattle.blog_row.specs.code.SameNullsView.{IsLengthBy}
use Rattle.blog_row.specs.code.StorageView.{AreStored}
use Rattle.blog_row.proofs.same_nulls.put_same.Given as goal

abbrev pub invariant-images : goal.invariant-images
invariant-images l = record {
  known_first : IsLengthBy l.storages l.first;
  known_second : IsLengthBy l.storages l.second;
  short : length l.rest ≤ length l.bytes;
  so_far : (columns : Layout) (all : List (List ℕ)) → AreStored columns l.storages → Written columns all l.bytes l.fn.to → Written columns all l.rest l.to;
}

abbrev pub decreases-images : goal.decreases-images
decreases-images l = length l.rest
