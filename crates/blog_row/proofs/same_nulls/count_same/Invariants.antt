use Rattle.std.proofs.Common.{◌≡◌, ◌+◌, ◌≤◌, length, option_map}
use Rattle.blog_row.specs.Column.{Layout}
use Rattle.blog_row.specs.Image.{images_of}
use Rattle.blog_row.specs.code.SameNullsView.{IsLengthBy}
use Rattle.blog_row.specs.code.StorageView.{AreStored}
use Rattle.blog_row.proofs.RowsCode.{counted}
use Rattle.blog_row.proofs.same_nulls.count_same.Given as goal

abbrev pub invariant-images : goal.invariant-images
invariant-images l = record {
  known_first : IsLengthBy l.storages l.first;
  known_second : IsLengthBy l.storages l.second;
  so_far : (columns : Layout) → AreStored columns l.storages → counted l.images (images_of columns l.rest) ≡ option_map length (images_of columns l.bytes);
  few : l.images + length l.rest ≤ length l.bytes;
}

abbrev pub decreases-images : goal.decreases-images
decreases-images l = length l.rest
