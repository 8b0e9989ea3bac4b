-- How images are put in reverse order: from the front of what is left to the end of what is free.
use Rattle.std.proofs.Common.{reverse, is_some, true, unwrap_or, refl, ◌≡◌, ◌+◌, ◌-◌, ◌<◌, ◌≤◌, ℕ, List, [], ◌∷◌, ◌++◌, length, take, drop, Option, Some, None, option_map, sym, ap, ◌∙◌, arith, append_assoc, length-append, drop_at, length-take-le, drop-drop}
use Rattle.std.specs.List.{concat}
use Rattle.std.proofs.lemmas.List.{append-nil, reverse-append}
use Rattle.std.proofs.lemmas.List.Folds.{concat-append}
use Rattle.std.proofs.lemmas.Option.{same_Some}
use Rattle.blog_row.specs.Column.{Layout}
use Rattle.blog_row.specs.Image.{image_len_of, images_up_to, images_of}
use Rattle.blog_row.specs.code.ReversingView.{Written}
use Rattle.blog_row.proofs.Cutting.{map_found}
use Rattle.blog_row.proofs.RowsCode.{counted, OneImage, count_stops}

-- the first image comes last
pub reversed_before : (image : List ℕ) (images : List (List ℕ)) → concat (reverse (image ∷ images)) ≡ concat (reverse images) ++ image
reversed_before image images =
    ap concat (reverse-append (image ∷ []) images) ∙ concat-append (reverse images) (image ∷ [])
    ∙ ap (λ (t : List ℕ). concat (reverse images) ++ t) (append-nil image)

-- nothing is written; what stands behind the room for the images stays
pub written_before : (layout : Layout) (bytes to : List ℕ) → is_some (images_of layout bytes) ≡ true → length bytes ≤ length to → Written layout (drop (length bytes) to ∷ unwrap_or (images_of layout bytes) []) bytes to
written_before layout bytes to imaged room = by_case (images_of layout bytes) refl imaged
  where
    by_case : (o : Option (List (List ℕ))) → images_of layout bytes ≡ o → is_some o ≡ true → Written layout (drop (length bytes) to ∷ unwrap_or o []) bytes to
    by_case None e some = absurd (cc)
    by_case (Some images) e some = record { left = images; left_is = e; within = room; text = reversed_before (drop (length bytes) to) images }

-- the images that are left are written before those that were written
pub written_rest : (layout : Layout) (all : List (List ℕ)) (rest to new : List ℕ) → Written layout all rest to → new ≡ concat (reverse (unwrap_or (images_of layout rest) [])) ++ drop (length rest) to → new ≡ concat (reverse all)
written_rest layout all rest to new w new_is =
    let left : unwrap_or (images_of layout rest) [] ≡ w.left = ap (λ (o : Option (List (List ℕ))). unwrap_or o []) w.left_is in
    new_is ∙ ap (λ (images : List (List ℕ)). concat (reverse images) ++ drop (length rest) to) left ∙ sym w.text

-- what is left are images
pub written_imaged : (layout : Layout) (all : List (List ℕ)) (rest to : List ℕ) → Written layout all rest to → is_some (images_of layout rest) ≡ true
written_imaged layout all rest to w = ap (λ (o : Option (List (List ℕ))). is_some o) w.left_is

-- what is left begins with an image
pub written_there : {P : Type 0} (layout : Layout) (all : List (List ℕ)) (rest to : List ℕ) → Written layout all rest to → 0 < length rest → image_len_of layout rest ≡ None → P
written_there layout all rest to w some none =
    let no : ◌≡◌ {A = Option ℕ} (Some (0 + length w.left)) None = count_stops layout rest 0 (Some (0 + length w.left)) some none (ap (counted 0) w.left_is) in
    absurd (cc)

-- what stands behind a in a list of which k elements from a on were written over
behind_written : (a k : ℕ) (to image : List ℕ) → a ≤ length to → drop a (take a to ++ (image ++ drop k (drop a to))) ≡ image ++ drop (a + k) to
behind_written a k to image l =
    drop_at (take a to) (image ++ drop k (drop a to)) a (length-take-le a to l) ∙ ap (λ (t : List ℕ). image ++ t) (drop-drop k a to)

-- one image more
pub written_more : (layout : Layout) (all : List (List ℕ)) (rest behind to image : List ℕ) (len : ℕ) → OneImage layout rest len → image ≡ take len rest → behind ≡ drop len rest → length behind + len ≡ length rest → Written layout all rest to
    → Written layout all behind (take (length behind) to ++ (image ++ drop (length rest - length behind) (drop (length behind) to)))
written_more layout all rest behind to image len one image_is behind_is parts w =
    let others : option_map (λ (images : List (List ℕ)). take len rest ∷ images) (images_of layout (drop len rest)) ≡ Some w.left = sym one.others ∙ w.left_is in
    let next : (images : List (List ℕ)) × (images_of layout (drop len rest) ≡ Some images) × (take len rest ∷ images ≡ w.left) = map_found (λ (images : List (List ℕ)). take len rest ∷ images) (images_of layout (drop len rest)) w.left others in
    let left_is : image ∷ next.0 ≡ w.left = ap (λ (t : List ℕ). t ∷ next.0) image_is ∙ next.2 in
    let a : ℕ = length behind in
    let k : ℕ = length rest - length behind in
    let free : a ≤ length to = let fits = w.within in omega arith in
    let end : a + k ≡ length rest = omega arith in
    let before : concat (reverse w.left) ≡ concat (reverse next.0) ++ image = ap (λ (xs : List (List ℕ)). concat (reverse xs)) (sym left_is) ∙ reversed_before image next.0 in
    let written : drop a (take a to ++ (image ++ drop k (drop a to))) ≡ image ++ drop (length rest) to = behind_written a k to image free ∙ ap (λ (n : ℕ). image ++ drop n to) end in
    record {
      left = next.0;
      left_is = ap (images_of layout) behind_is ∙ next.1;
      within = omega (arith, length-append (take a to) (image ++ drop k (drop a to)), length-take-le a to free);
      text =
          w.text ∙ ap (λ (t : List ℕ). t ++ drop (length rest) to) before ∙ append_assoc (concat (reverse next.0)) image (drop (length rest) to)
          ∙ ap (λ (t : List ℕ). concat (reverse next.0) ++ t) (sym written);
    }

-- nothing is left
pub written_all : (layout : Layout) (all : List (List ℕ)) (rest to : List ℕ) → Written layout all rest to → length rest ≡ 0 → to ≡ concat (reverse all)
unfolding images_up_to
written_all layout all [] to w none =
    let nothing : [] ≡ w.left = same_Some [] w.left w.left_is in
    sym (w.text ∙ ap (λ (xs : List (List ℕ)). concat (reverse xs) ++ to) (sym nothing))
written_all layout all (b ∷ rest) to w none = absurd (omega arith)
