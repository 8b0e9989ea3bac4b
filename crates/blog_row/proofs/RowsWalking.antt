-- How the code goes from image to image, and from row to row.
use Rattle.std.proofs.Common.{◌≡◌, ◌<◌, ℕ, true, is_some, List, [], ◌∷◌, length, take, drop, Option, Some, None, option_map, unwrap_or, refl, sym, ap, ◌∙◌, arith}
use Rattle.blog_row.specs.Column.{Layout}
use Rattle.blog_row.specs.Image.{image_front, image_len_of, images_up_to, images_of}
use Rattle.blog_row.proofs.RowsCode.{OneImage, one_image, images_stop}

-- what maps to nothing is nothing
nothing_mapped : {A B : Type 0} (f : A → B) (o : Option A) → option_map f o ≡ None → o ≡ None
nothing_mapped f None e = refl
nothing_mapped f (Some x) e = absurd (cc)

-- where whole images begin with no image, none is left
pub no_image : (layout : Layout) (bytes : List ℕ) → image_len_of layout bytes ≡ None → is_some (images_of layout bytes) ≡ true → unwrap_or (images_of layout bytes) [] ≡ []
unfolding images_up_to
no_image layout [] e whole = refl
no_image layout (b ∷ bytes) e whole =
    let none : images_of layout (b ∷ bytes) ≡ None = images_stop layout (b ∷ bytes) (omega arith) (nothing_mapped _ (image_front layout (b ∷ bytes)) e) in
    ap (λ (o : Option (List (List ℕ))). unwrap_or o []) none

-- the first image, and those behind it
first_of : (image : List ℕ) (o : Option (List (List ℕ))) → is_some (option_map (λ images. image ∷ images) o) ≡ true
    → (is_some o ≡ true) × (unwrap_or (option_map (λ images. image ∷ images) o) [] ≡ image ∷ unwrap_or o [])
first_of image None whole = absurd (cc)
first_of image (Some images) whole = (refl, refl)

-- where whole images begin with one of so many bytes, whole images stand behind it
pub next_image : (layout : Layout) (bytes : List ℕ) (len : ℕ) → 0 < length layout → image_len_of layout bytes ≡ Some len → is_some (images_of layout bytes) ≡ true
    → (is_some (images_of layout (drop len bytes)) ≡ true) × (unwrap_or (images_of layout bytes) [] ≡ take len bytes ∷ unwrap_or (images_of layout (drop len bytes)) [])
next_image layout bytes len some e whole =
    let one : OneImage layout bytes len = one_image layout bytes len some e in
    let f = first_of (take len bytes) (images_of layout (drop len bytes)) (ap is_some (sym one.others) ∙ whole) in
    (f.0, ap (λ (o : Option (List (List ℕ))). unwrap_or o []) one.others ∙ f.1)
