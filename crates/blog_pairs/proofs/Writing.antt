-- The image of a row is written.
use Rattle.std.proofs.Common.{◌≡◌, ◌<◌, ◌⊎◌, inl, inr, ◌++◌, ℕ, zero, suc, List, [], length, map, Option, Some, None, nat_le, option_map, slice_index, sym, ap, ◌∙◌, subst, arith}
use Rattle.std.specs.Option.{unwrap_or}
use Rattle.std.proofs.Math.Dec.{leb-suc-zero}
use Rattle.std.proofs.lemmas.Bool.{cond-false}
use Rattle.std.proofs.lemmas.List.{length-map}
use Rattle.blog_merge.specs.Merge.{merged}
use Rattle.blog_row.specs.Checks.{cut}
use Rattle.blog_row.specs.Column.{Layout}
use Rattle.blog_row.specs.Image.{IsImage, IsSomeImage, Row, bitmap_len, row_of}
use Rattle.blog_row.proofs.Walking.{nulls_short}
use Rattle.blog_pairs.specs.Spelled.{PutsNulls, values_text}
use Rattle.blog_pairs.proofs.Fitting.{Fits, fits_merged, fits_spelled, image_long, row_fits, row_long}
use Rattle.blog_pairs.proofs.Merged.{merged_long, merged_none}

pub written : (columns : Layout) (row : Row) (nulls image : List ℕ) → PutsNulls row [] nulls → image ≡ nulls ++ values_text columns row
    → length row ≡ length columns → Fits columns row → IsImage columns row image
written columns row nulls image put text long fits = record {
  nulls = put.nulls;
  values = values_text columns row;
  parts = text ∙ ap (λ front. front ++ values_text columns row) put.text;
  long = put.long ∙ ap bitmap_len long;
  marks = put.marks.marks;
  spells = fits_spelled columns row long fits;
}

-- ---- of a row that an update is made to

abbrev pub row_with : Layout → List ℕ → List ℕ → List ℕ → Row
row_with columns before after other = merged (row_of columns before) (row_of columns after) (row_of columns other)

pub row_written : (columns : Layout) (before after other nulls image : List ℕ) (row : Row)
    → ((i : ℕ) → slice_index before i < 256) → ((i : ℕ) → slice_index after i < 256) → ((i : ℕ) → slice_index other i < 256)
    → row ≡ row_with columns before after other → PutsNulls row [] nulls → image ≡ nulls ++ values_text columns row → length row ≡ length columns
    → IsImage columns (row_with columns before after other) image
row_written columns before after other nulls image row x y z is put text long =
    subst (λ r. IsImage columns r image) is
    (written columns row nulls image put text long
    (subst (Fits columns) (sym is) (fits_merged columns (row_of columns before) (row_of columns after) (row_of columns other) (row_fits columns before x) (row_fits columns after y) (row_fits columns other z))))

-- by the steps in which it is written
pub made : {X : Type 0} (view : X → Option (List ℕ)) (columns : Layout) (before after other : List ℕ) (row one two : List X) (empty nulls image : List ℕ)
    → ((i : ℕ) → slice_index before i < 256) → ((i : ℕ) → slice_index after i < 256) → ((i : ℕ) → slice_index other i < 256)
    → map view row ≡ row_with columns before after other → one ≡ row → two ≡ row → empty ≡ [] → PutsNulls (map view one) empty nulls
    → image ≡ nulls ++ values_text columns (map view two) → length row ≡ length columns → IsImage columns (row_with columns before after other) image
made view columns before after other row one two empty nulls image x y z is first second none put text long =
    let puts : PutsNulls (map view row) [] nulls = subst (λ r. PutsNulls (map view r) [] nulls) first (subst (λ o. PutsNulls (map view one) o nulls) none put) in
    row_written columns before after other nulls image (map view row) x y z is puts
    (text ∙ ap (λ r. nulls ++ values_text columns (map view r)) second) (length-map row view ∙ long)

-- ---- of bytes that are no image

cut_none : (n : ℕ) → 0 < n → cut n [] ≡ None
cut_none zero some = absurd (omega arith)
cut_none (suc n) some = cond-false (nat_le (suc n) 0) (Some ([], [])) None (leb-suc-zero n)

empty_row : (columns : Layout) → 0 < length columns → row_of columns [] ≡ []
unfolding row_of
empty_row columns some = ap (λ o. unwrap_or (option_map (λ r. r.0) o) []) (nulls_short columns [] (cut_none (bitmap_len (length columns)) (omega arith)))

pub not_written : (columns : Layout) (before after other : List ℕ) → 0 < length columns → (length (row_with columns before after other) ≡ length columns → ⊥)
    → row_of columns [] ≡ row_with columns before after other
not_written columns before after other some short = by_case (row_long columns after)
  where
    by_case : ((row_of columns after ≡ []) ⊎ (length (row_of columns after) ≡ length columns)) → row_of columns [] ≡ row_with columns before after other
    by_case (inl none) =
        empty_row columns some ∙ sym (ap (λ r. merged (row_of columns before) r (row_of columns other)) none ∙ merged_none (row_of columns before) (row_of columns other))
    by_case (inr long) = absurd (short (merged_long (row_of columns before) (row_of columns after) (row_of columns other) ∙ long))

pub long_written : (columns : Layout) (before after other : List ℕ) → IsSomeImage columns after → length (row_with columns before after other) ≡ length columns
long_written columns before after other is = merged_long (row_of columns before) (row_of columns after) (row_of columns other) ∙ image_long columns after is
