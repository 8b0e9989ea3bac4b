-- What a contract sees of images that are being put in reverse order.
use Rattle.std.specs.Prelude.{◌≡◌, ◌≤◌, ℕ, List, ◌++◌, length, drop, reverse, Some}
use Rattle.std.specs.List.{concat}
use Rattle.blog_row.specs.Column.{Layout}
use Rattle.blog_row.specs.Image.{images_of}

-- the images that are left are read from the rest, and those before them stand in reverse order behind the room for these
pub record Written (layout : Layout) (all : List (List ℕ)) (rest to : List ℕ) : Type 0 where
  pub left : List (List ℕ)
  pub left_is : images_of layout rest ≡ Some left
  pub within : length rest ≤ length to
  pub text : concat (reverse all) ≡ concat (reverse left) ++ drop (length rest) to
