use Rattle.std.proofs.Common.{[], length, unwrap_or}
use Rattle.blog_row.specs.Image.{images_of}
use Rattle.blog_row.specs.code.LayoutView.{layout_columns}
use Rattle.blog_row.specs.code.ReversingView.{Written}
use Rattle.blog_row.proofs.image_walks.put_from_last.Given as goal

abbrev pub invariant-images : goal.invariant-images
invariant-images l = Written (layout_columns l.layout) (unwrap_or (images_of (layout_columns l.layout) l.bytes) []) l.rest l.to

abbrev pub decreases-images : goal.decreases-images
decreases-images l = length l.rest
