use Rattle.std.proofs.Common.{◌≡◌, ◌+◌, ◌≤◌, length, option_map}
use Rattle.blog_row.specs.Image.{images_of}
use Rattle.blog_row.specs.code.LayoutView.{layout_columns}
use Rattle.blog_row.proofs.RowsCode.{counted}
use Rattle.blog_row.proofs.image_walks.images_in.Given as goal

abbrev pub invariant-images : goal.invariant-images
invariant-images l =
    (counted l.images (images_of (layout_columns l.layout) l.rest) ≡ option_map length (images_of (layout_columns l.layout) l.bytes)) × (l.images + length l.rest ≤ length l.bytes)

abbrev pub decreases-images : goal.decreases-images
decreases-images l = length l.rest
