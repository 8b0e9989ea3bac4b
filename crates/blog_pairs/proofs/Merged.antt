-- An update is made to another row value by value.
use Rattle.std.proofs.Common.{◌≡◌, ℕ, suc, List, [], ◌∷◌, ◌++◌, map, length, Option, Some, None, MatchOption, option_map, refl, sym, ap, ◌∙◌, append_assoc, append-nil}
use Rattle.std.proofs.lemmas.List.{map-append}
use Rattle.blog_row.specs.Image.{Row}
use Rattle.blog_merge.specs.Merge.{merged}
use Rattle.blog_pairs.specs.Spelled.{merged_value}

merged_short : (before after : Row) → merged before after [] ≡ after
merged_short [] after = refl
merged_short (a ∷ before) [] = refl
merged_short (a ∷ before) (b ∷ after) = refl

pub merged_long : (before after other : Row) → length (merged before after other) ≡ length after
merged_long [] after other = refl
merged_long (a ∷ before) [] other = refl
merged_long (a ∷ before) (b ∷ after) [] = refl
merged_long (a ∷ before) (b ∷ after) (c ∷ other) = ap suc (merged_long before after other)

-- the value that comes first, if one is there, and those after it
abbrev pub Takes : {X : Type 0} → (X → Option (List ℕ)) → Row → Option X → Row → Type 0
Takes view all first others = MatchOption first ((all ≡ []) × (others ≡ [])) (λ x. all ≡ view x ∷ others)

pub next_merged : {X : Type 0} (view : X → Option (List ℕ)) (r s : Option X) (before others : Row) (b : Option (List ℕ)) (after other rest : Row)
    → Takes view before r others → Takes view other s rest
    → merged before (b ∷ after) other ≡ merged_value (option_map view r) b (option_map view s) ∷ merged others after rest
next_merged view None None before others b after other rest x y = ap (λ xs. merged xs (b ∷ after) other) x.0 ∙ sym (ap (λ xs. b ∷ merged xs after rest) x.1)
next_merged view None (Some w) before others b after other rest x y = ap (λ xs. merged xs (b ∷ after) other) x.0 ∙ sym (ap (λ xs. b ∷ merged xs after rest) x.1)
next_merged view (Some z) None before others b after other rest x y =
    ap (λ xs. merged xs (b ∷ after) other) x ∙ ap (merged (view z ∷ others) (b ∷ after)) y.0
    ∙ sym (ap (λ vs. b ∷ merged others after vs) y.1 ∙ ap (λ vs. b ∷ vs) (merged_short others after))
next_merged view (Some z) (Some w) before others b after other rest x y = ap (λ xs. merged xs (b ∷ after) other) x ∙ ap (merged (view z ∷ others) (b ∷ after)) y

-- one more value of the merged row
pub step_merged : {X : Type 0} (view : X → Option (List ℕ)) (row new : List X) (value item : X) (r s : Option X) (before others now after other rest all : Row)
    → new ≡ row ++ value ∷ [] → view value ≡ merged_value (option_map view r) (view item) (option_map view s)
    → now ≡ view item ∷ after → Takes view before r others → Takes view other s rest
    → map view row ++ merged before now other ≡ all → map view new ++ merged others after rest ≡ all
step_merged view row new value item r s before others now after other rest all put is first x y left =
    ap (λ vs. map view vs ++ merged others after rest) put
    ∙ ap (λ vs. vs ++ merged others after rest) (map-append view row (value ∷ []))
    ∙ append_assoc (map view row) (view value ∷ []) (merged others after rest)
    ∙ ap (λ v. map view row ++ (v ∷ merged others after rest)) is
    ∙ ap (λ vs. map view row ++ vs) (sym (next_merged view r s before others (view item) after other rest x y))
    ∙ ap (λ vs. map view row ++ merged before vs other) (sym first)
    ∙ left

pub merged_none : (before other : Row) → merged before [] other ≡ []
merged_none [] other = refl
merged_none (a ∷ before) other = refl

-- no value is left
pub end_merged : {X : Type 0} (view : X → Option (List ℕ)) (row : List X) (before now other all : Row) → now ≡ [] → map view row ++ merged before now other ≡ all → map view row ≡ all
end_merged view row before now other all none left =
    sym (append-nil (map view row)) ∙ ap (λ vs. map view row ++ vs) (sym (ap (λ vs. merged before vs other) none ∙ merged_none before other)) ∙ left
