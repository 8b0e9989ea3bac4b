use Rattle.std.proofs.Common.{◌≡◌, ◌+◌, ◌<◌, ◌≤◌, length}
use Rattle.blog_row.specs.Image.{images_of}
use Rattle.blog_row.specs.code.LayoutView.{layout_columns}
use Rattle.blog_row.specs.code.StorageView.{AreStored}
use Rattle.blog_row.proofs.RowsCode.{counted}
use Rattle.blog_row.proofs.image_walks.count_up_to.Given as goal

abbrev pub invariant-images : goal.invariant-images
invariant-images g l = record {
  stored : AreStored (layout_columns l.layout) l.storages;
  small : (0 < length l.storages) × (length l.storages ≤ g.row.MOST);
  so_far : counted l.images (images_of (layout_columns l.layout) l.rest) ≡ counted l.before (images_of (layout_columns l.layout) l.bytes);
  few : l.images + length l.rest ≤ l.before + length l.bytes;
}

abbrev pub decreases-images : goal.decreases-images
decreases-images g l = length l.rest
