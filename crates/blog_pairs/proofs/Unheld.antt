-- Changes of others to a table that isn't held make no difference.
use Rattle.std.proofs.Common.{◌≡◌, ◌<◌, ℕ, true, false, List, [], ◌∷◌, length, slice_get, Option, Some, None, option_map, refl, sym, ap, ◌∙◌, subst}
use Rattle.std.specs.Prelude.{MatchOption}
use Rattle.std.proofs.lemmas.Bool.{and_parts}
use Rattle.std.proofs.lemmas.Option.{none-some, same_Some}
use Rattle.blog_later.specs.code.EventChanges.{image_changes, images_changes}
use Rattle.blog_merge.specs.Pairs.{Pair, is_of}
use Rattle.blog_row.specs.Column.{Layout}
use Rattle.blog_row.specs.Image.{Row, row_of}
use Rattle.blog_row.specs.RowsEvent.{RowImages}
use Rattle.blog_row.specs.TableMap.{Table}
use Rattle.blog_trans.specs.Changes.{table_of}
use Rattle.blog_trans.proofs.Tables.{same-table}
use Rattle.blog_pairs.specs.Places.{EachSlot, place_of, present}
use Rattle.blog_pairs.specs.Steps.{pairs_with}
use Rattle.blog_pairs.specs.Tables.{IsNewTable}
use Rattle.blog_pairs.specs.code.ChangedView.{IsTableOf}
use Rattle.blog_pairs.specs.code.PairsView.{bodies_of, pair_told, pairs_in, slots_told}
use Rattle.blog_pairs.specs.declared.changed.ChangedTable.{ChangedTable}
use Rattle.blog_pairs.specs.declared.held.HeldPair.{HeldPair}
use Rattle.blog_pairs.specs.declared.held.HeldTable.{HeldTable}
use Rattle.blog_pairs.proofs.Pairing.{later_unpaired, there_at}
use Rattle.blog_pairs.proofs.RowPlaces.{no_place, none_from}
use Rattle.blog_pairs.proofs.Stepping.{with_more}

-- no row of the table has a pair
unheld_place : {A : Type 0} (bodies : List (List ℕ)) (body : List ℕ) (r : Row) (slots : List (Option (HeldPair A))) → EachSlot (λ i (p : HeldPair A). p.table < length bodies) slots
    → IsNewTable bodies body → place_of (table_of body) r (slots_told bodies slots) ≡ None
unheld_place {A} bodies body r slots numbered new = none_from (table_of body) r (slots_told bodies slots) never
  where
    own : (i : ℕ) (p : Pair) (s : Option (HeldPair A)) → slice_get slots i ≡ Some s → option_map (pair_told bodies) s ≡ Some p → is_of (table_of body) r p ≡ true → ⊥
    own i p None got told is = none-some p told
    own i p (Some q) got told is =
        let same : pair_told bodies q ≡ p = same_Some (pair_told bodies q) p told in
        let table : table_of body ≡ p.table = same-table (table_of body) p.table (and_parts _ _ is).0 in
        new q.table (numbered i q got) (ap (λ (p : Pair). p.table) same ∙ sym table)

    never : (i : ℕ) (p : Pair) → slice_get (slots_told bodies slots) i ≡ Some (Some p) → is_of (table_of body) r p ≡ true → ⊥
    never i p at is = let (s, got, told) = there_at (option_map (pair_told bodies)) slots i (Some p) at in own i p s got told is

-- the change of a row without a pair
row_unpaired : (t : Table) (l : Layout) (before after : Option (List ℕ)) (ps : List (Option Pair)) → ((r : Row) → place_of t r ps ≡ None)
    → pairs_with false (image_changes t l before after) (present ps) ≡ present ps
row_unpaired t l None None ps none = refl
row_unpaired t l None (Some after) ps none = refl
row_unpaired t l (Some before) None ps none = (no_place t (row_of l before) ps (none (row_of l before))).taken
row_unpaired t l (Some before) (Some after) ps none = later_unpaired t (row_of l before) (row_of l after) ps (none (row_of l before))

rows_unpaired : (t : Table) (l : Layout) (rows : List RowImages) (ps : List (Option Pair)) → ((r : Row) → place_of t r ps ≡ None)
    → pairs_with false (images_changes t l rows) (present ps) ≡ present ps
rows_unpaired t l [] ps none = refl
rows_unpaired t l (row ∷ rows) ps none =
    with_more false (image_changes t l row.before row.after) (images_changes t l rows) (present ps)
    ∙ ap (pairs_with false (images_changes t l rows)) (row_unpaired t l row.before row.after ps none)
    ∙ rows_unpaired t l rows ps none

-- the change of a row of a table that isn't held
pub unheld_row : {A : Type 0} (bodies : List (List ℕ)) (body : List ℕ) (l : Layout) (before after : Option (List ℕ)) (slots : List (Option (HeldPair A)))
    → EachSlot (λ i (p : HeldPair A). p.table < length bodies) slots → IsNewTable bodies body
    → pairs_with false (image_changes (table_of body) l before after) (pairs_in bodies slots) ≡ pairs_in bodies slots
unheld_row bodies body l before after slots numbered new = row_unpaired (table_of body) l before after (slots_told bodies slots) (λ r. unheld_place bodies body r slots numbered new)

-- those of rows
pub unheld_rows : {A : Type 0} (bodies : List (List ℕ)) (body : List ℕ) (l : Layout) (rows : List RowImages) (slots : List (Option (HeldPair A)))
    → EachSlot (λ i (p : HeldPair A). p.table < length bodies) slots → IsNewTable bodies body
    → pairs_with false (images_changes (table_of body) l rows) (pairs_in bodies slots) ≡ pairs_in bodies slots
unheld_rows bodies body l rows slots numbered new = rows_unpaired (table_of body) l rows (slots_told bodies slots) (λ r. unheld_place bodies body r slots numbered new)

-- ---- what a look-up of a held table returns

abbrev pub IsFoundTable : {A : Type 0} → List (HeldTable A) → List ℕ → Layout → Option ChangedTable → Type 0
IsFoundTable tables body l o = MatchOption o (IsNewTable (bodies_of tables) body) (IsTableOf (bodies_of tables) body l)

pub table_new : {A : Type 0} (looked tables : List (HeldTable A)) (body : List ℕ) (l : Layout) (o : Option ChangedTable) → looked ≡ tables → IsFoundTable looked body l o → o ≡ None
    → IsNewTable (bodies_of tables) body
table_new looked tables body l None same found is = subst (λ ts. IsNewTable (bodies_of ts) body) same found
table_new looked tables body l (Some t) same found is = absurd (none-some t (sym is))

pub table_held : {A : Type 0} (looked tables : List (HeldTable A)) (body : List ℕ) (l : Layout) (o : Option ChangedTable) (table : ChangedTable) → looked ≡ tables → IsFoundTable looked body l o → o ≡ Some table
    → IsTableOf (bodies_of tables) body l table
table_held looked tables body l None table same found is = absurd (none-some table is)
table_held looked tables body l (Some t) table same found is =
    subst (λ ts. IsTableOf (bodies_of ts) body l table) same (subst (λ (u : ChangedTable). IsTableOf (bodies_of looked) body l u) (same_Some t table is) found)
