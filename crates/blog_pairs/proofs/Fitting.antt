-- The values of images can be spelled with their lengths.
use Rattle.std.proofs.Common.{◌≡◌, ◌<◌, ◌^◌, ◌⊎◌, inl, inr, ℕ, zero, suc, Bool, true, false, cond, List, [], ◌∷◌, ◌++◌, length, Option, Some, None, slice_index, option_map, refl, sym, ap, ◌∙◌, subst, arith, append-nil}
use Rattle.std.specs.Option.{unwrap_or}
use Rattle.byteorder.specs.Endian.{little_bytes, little_number}
use Rattle.byteorder.specs.Numbers.{length-bytes_low_first, little_from-lt, little_number-reads_back}
use Rattle.blog_row.specs.Column.{Column, Layout, Storage, Fixed, Counted, Spells, SpellsAs, storage_of}
use Rattle.blog_row.specs.Image.{IsImage, IsSomeImage, Row, SpellsRow, image_front, row_of}
use Rattle.blog_row.proofs.Images.{image_again, image_found}
use Rattle.blog_flash.specs.States.{is_same_value}
use Rattle.blog_merge.specs.Merge.{merged}
use Rattle.blog_pairs.specs.Spelled.{prefix_of, prefix_stored, value_text, values_text}

-- ---- bytes

abbrev AllBytes : List ℕ → Type 0
AllBytes [] = Unit {0}
AllBytes (b ∷ bytes) = (b < 256) × AllBytes bytes

all_bytes : (bytes : List ℕ) → ((i : ℕ) → slice_index bytes i < 256) → AllBytes bytes
all_bytes [] each = tt
all_bytes (b ∷ bytes) each = (each 0, all_bytes bytes (λ i. each (suc i)))

each_byte : (bytes : List ℕ) → AllBytes bytes → (i : ℕ) → slice_index bytes i < 256
each_byte [] all i = omega arith
each_byte (b ∷ bytes) all zero = all.0
each_byte (b ∷ bytes) all (suc i) = each_byte bytes all.1 i

front_bytes : (xs ys : List ℕ) → AllBytes (xs ++ ys) → AllBytes xs
front_bytes [] ys all = tt
front_bytes (x ∷ xs) ys all = (all.0, front_bytes xs ys all.1)

back_bytes : (xs ys : List ℕ) → AllBytes (xs ++ ys) → AllBytes ys
back_bytes [] ys all = all
back_bytes (x ∷ xs) ys all = back_bytes xs ys all.1

-- ---- a value

own_as : (storage : Storage) (value first : List ℕ) → SpellsAs storage value first → AllBytes first → SpellsAs storage value (little_bytes (prefix_stored storage) (length value) ++ value)
own_as (Fixed width) value first s all = (s.0, refl)
own_as (Counted prefix) value first s all =
    let bytes : AllBytes s.0 = front_bytes s.0 value (subst AllBytes s.3 all) in
    let below : length value < 256 ^ prefix = subst (λ n. n < 256 ^ prefix) s.2 (little_from-lt 0 prefix s.0 (each_byte s.0 bytes)) in
    let text : List ℕ = little_bytes prefix (length value) in
    (text, length-bytes_low_first 0 prefix (length value), ap (little_number prefix) (sym (append-nil text)) ∙ little_number-reads_back prefix (length value) [] below, refl)

own_text : (column : Column) (value first : List ℕ) → Spells column value first → AllBytes first → Spells column value (value_text (storage_of column) (Some value))
own_text column value first s all =
    (s.0, s.1, subst (λ o. SpellsAs s.0 value (little_bytes (prefix_of o) (length value) ++ value)) (sym s.1) (own_as s.0 value first s.2 all))

-- ---- a row

abbrev SpellsOwn : Column → Option (List ℕ) → Type 0
SpellsOwn column None = Unit {0}
SpellsOwn column (Some value) = Spells column value (value_text (storage_of column) (Some value))

-- each value is spelled so, of those that are there
abbrev pub Fits : Layout → Row → Type 0
Fits [] row = Unit {0}
Fits (column ∷ columns) [] = Unit {0}
Fits (column ∷ columns) (value ∷ row) = SpellsOwn column value × Fits columns row

fits_none : (columns : Layout) → Fits columns []
fits_none [] = tt
fits_none (column ∷ columns) = tt

pub fits_merged : (columns : Layout) (before after other : Row) → Fits columns before → Fits columns after → Fits columns other → Fits columns (merged before after other)
fits_merged [] before after other x y z = tt
fits_merged (c ∷ cs) [] after other x y z = y
fits_merged (c ∷ cs) (a ∷ before) [] other x y z = tt
fits_merged (c ∷ cs) (a ∷ before) (b ∷ after) [] x y z = y
fits_merged (c ∷ cs) (a ∷ before) (b ∷ after) (o ∷ other) x y z = (picked (is_same_value a b), fits_merged cs before after other x.1 y.1 z.1)
  where
    picked : (t : Bool) → SpellsOwn c (cond t o b)
    picked true = z.0
    picked false = y.0

spelled_fits : (columns : Layout) (row : Row) (bytes : List ℕ) → SpellsRow columns row bytes → AllBytes bytes → Fits columns row
spelled_fits [] row bytes s all = tt
spelled_fits (c ∷ cs) [] bytes s all = tt
spelled_fits (c ∷ cs) (None ∷ row) bytes s all = (tt, spelled_fits cs row bytes s all)
spelled_fits (c ∷ cs) (Some value ∷ row) bytes s all =
    let parts : AllBytes (s.0 ++ s.1) = subst AllBytes s.4 all in
    (own_text c value s.0 s.2 (front_bytes s.0 s.1 parts), spelled_fits cs row s.1 s.3 (back_bytes s.0 s.1 parts))

pub fits_spelled : (columns : Layout) (row : Row) → length row ≡ length columns → Fits columns row → SpellsRow columns row (values_text columns row)
fits_spelled [] [] long fits = refl
fits_spelled [] (value ∷ row) long fits = absurd (omega arith)
fits_spelled (c ∷ cs) [] long fits = absurd (omega arith)
fits_spelled (c ∷ cs) (None ∷ row) long fits = fits_spelled cs row (omega arith) fits.1
fits_spelled (c ∷ cs) (Some value ∷ row) long fits = (value_text (storage_of c) (Some value), values_text cs row, fits.0, fits_spelled cs row (omega arith) fits.1, refl)

spelled_long : (columns : Layout) (row : Row) (bytes : List ℕ) → SpellsRow columns row bytes → length row ≡ length columns
spelled_long [] [] bytes s = refl
spelled_long [] (value ∷ row) bytes s = absurd s
spelled_long (c ∷ cs) [] bytes s = absurd s
spelled_long (c ∷ cs) (None ∷ row) bytes s = ap suc (spelled_long cs row bytes s)
spelled_long (c ∷ cs) (Some value ∷ row) bytes s = ap suc (spelled_long cs row s.1 s.3)

-- ---- the row of an image

pub row_fits : (columns : Layout) (image : List ℕ) → ((i : ℕ) → slice_index image i < 256) → Fits columns (row_of columns image)
unfolding row_of
row_fits columns image each = by_case (image_front columns image) refl
  where
    by_case : (o : Option (Row × List ℕ)) → image_front columns image ≡ o → Fits columns (unwrap_or (option_map (λ r. r.0) o) [])
    by_case None is = fits_none columns
    by_case (Some p) is =
        let found = image_found columns image p.0 p.1 is in
        let all : AllBytes (found.0 ++ p.1) = subst AllBytes found.2 (all_bytes image each) in
        let parts : AllBytes (found.1.nulls ++ found.1.values) = subst AllBytes found.1.parts (front_bytes found.0 p.1 all) in
        spelled_fits columns p.0 found.1.values found.1.spells (back_bytes found.1.nulls found.1.values parts)

pub image_row : (columns : Layout) (row : Row) (image : List ℕ) → IsImage columns row image → row_of columns image ≡ row
unfolding row_of
image_row columns row image is =
    ap (λ bytes. unwrap_or (option_map (λ r. r.0) (image_front columns bytes)) []) (sym (append-nil image))
    ∙ ap (λ o. unwrap_or (option_map (λ r. r.0) o) []) (image_again columns row image [] is)

-- it has a value for each column, or bytes begin with no image
pub row_long : (columns : Layout) (image : List ℕ) → (row_of columns image ≡ []) ⊎ (length (row_of columns image) ≡ length columns)
unfolding row_of
row_long columns image = by_case (image_front columns image) refl
  where
    by_case : (o : Option (Row × List ℕ)) → image_front columns image ≡ o
        → (unwrap_or (option_map (λ r. r.0) o) [] ≡ []) ⊎ (length (unwrap_or (option_map (λ r. r.0) o) []) ≡ length columns)
    by_case None is = inl refl
    by_case (Some p) is = let found = image_found columns image p.0 p.1 is in inr (spelled_long columns p.0 found.1.values found.1.spells)

pub image_long : (columns : Layout) (image : List ℕ) → IsSomeImage columns image → length (row_of columns image) ≡ length columns
image_long columns image is = ap length (image_row columns is.0 image is.1) ∙ spelled_long columns is.0 is.1.values is.1.spells
