-- The values of a row are written one after the other.
use Rattle.std.proofs.Common.{◌≡◌, ◌≤◌, ◌++◌, ℕ, List, [], ◌∷◌, length, map, drop, Option, refl, sym, ap, ◌∙◌, append-nil, drop_of_length-le}
use Rattle.blog_row.specs.Column.{Layout, columns_of, metadata_total, types_of, metadata_of}
use Rattle.blog_row.proofs.Layouts.{metadata_of_columns, types_of_columns}
use Rattle.blog_pairs.specs.Spelled.{values_text}

no_values : (columns : Layout) → values_text columns [] ≡ []
no_values [] = refl
no_values (column ∷ columns) = refl

-- none is left
pub all_put : {X : Type 0} (view : X → Option (List ℕ)) (columns : Layout) (row : List X) (n : ℕ) (image all : List ℕ) → length row ≤ n
    → image ++ values_text columns (map view (drop n row)) ≡ all → image ≡ all
all_put view columns row n image all past left =
    sym (append-nil image)
    ∙ ap (λ text. image ++ text) (sym (ap (λ vs. values_text columns (map view vs)) (drop_of_length-le row past) ∙ no_values columns))
    ∙ left

-- the columns of a layout's types and metadata
pub record AreParts (kinds metadata types bytes : List ℕ) : Type 0 where
  pub whole : metadata_total types ≡ length bytes
  pub columns : columns_of types bytes ≡ columns_of kinds metadata

pub are_parts : (kinds metadata types bytes : List ℕ) → metadata_total kinds ≡ length metadata → types ≡ types_of (columns_of kinds metadata) → bytes ≡ metadata_of (columns_of kinds metadata)
    → AreParts kinds metadata types bytes
are_parts kinds metadata types bytes whole t d =
    let ke : types ≡ kinds = t ∙ types_of_columns kinds metadata in
    let me : bytes ≡ metadata = d ∙ metadata_of_columns kinds metadata whole in
    record {
      whole = ap metadata_total ke ∙ whole ∙ sym (ap length me);
      columns = ap (λ ks. columns_of ks bytes) ke ∙ ap (columns_of kinds) me;
    }
