use Rattle.std.proofs.Common.{◌<◌, ◌≤◌, [], ◌∷◌, length, drop, unwrap_or}
use Rattle.blog_row.specs.Image.{images_of}
use Rattle.blog_row.specs.code.LayoutView.{layout_columns}
use Rattle.blog_row.specs.code.ReversingView.{Written}
use Rattle.blog_row.specs.code.StorageView.{AreStored}
use Rattle.blog_row.proofs.image_walks.put_up_to.Given as goal

abbrev pub invariant-images : goal.invariant-images
invariant-images g l = record {
  stored : AreStored (layout_columns l.layout) l.storages;
  small : (0 < length l.storages) × (length l.storages ≤ g.row.MOST);
  written : Written (layout_columns l.layout) (drop (length l.bytes) l.fn.to ∷ unwrap_or (images_of (layout_columns l.layout) l.bytes) []) l.rest l.to;
}

abbrev pub decreases-images : goal.decreases-images
decreases-images g l = length l.rest
