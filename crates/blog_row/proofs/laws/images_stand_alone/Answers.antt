-- No image is the front of another.
use Rattle.std.proofs.Common.{◌≡◌, ℕ, List, [], ◌++◌, Some, sym, ap, ◌∙◌, append-nil}
use Rattle.std.proofs.lemmas.Option.{some_pair_parts}
use Rattle.blog_row.specs.Column.{Layout}
use Rattle.blog_row.specs.Image.{IsSomeImage, image_front}
use Rattle.blog_row.proofs.Images.{image_again}
use Rattle.blog_row.proofs.laws.images_stand_alone.Goals as goal

pub returns : goal.returns
returns c = record { alone = alone }
  where
    alone : (layout : Layout) (image other rest : List ℕ) → IsSomeImage layout image → IsSomeImage layout other → image ≡ other ++ rest → rest ≡ []
    alone layout image other rest is is_other parts =
        let whole : image_front layout image ≡ Some (is.0, []) = ap (image_front layout) (sym (append-nil image)) ∙ image_again layout is.0 image [] is.1 in
        let front : image_front layout image ≡ Some (is_other.0, rest) = ap (image_front layout) parts ∙ image_again layout is_other.0 other rest is_other.1 in
        sym (some_pair_parts is.0 is_other.0 [] rest (sym whole ∙ front)).1
