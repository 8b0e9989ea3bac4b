-- The numbers by table of an index are those of its groups.
use Rattle.std.proofs.Common.{arith, ◌≡◌, ℕ, List, [], map, length, Some, option_map, sym, ap, ◌∙◌}
use Rattle.std.specs.List.{flat_map, slice_get}
use Rattle.std.proofs.lemmas.List.{append-nil, length-map}
use Rattle.std.proofs.lemmas.List.Folds.{flat_map-map}
use Rattle.std.proofs.lemmas.Simd.{map-map}
use Rattle.std.proofs.lemmas.Option.{slice_get-map}
use Rattle.blog_row.specs.TableMap.{Table}
use Rattle.blog_trans.specs.Selection.{Selection}
use Rattle.blog_trans.specs.Groups.{PlacedTransaction, Transaction, placed_groups, groups, transaction_value}
use Rattle.blog_trans.specs.Changes.{TableCount, table_of, changes_of, count_of, first_tables, tables_of, counts_of}
use Rattle.blog_trans.specs.code.BuilderView.{statements_changes, statements_tables, placed_changes, placed_tables}

-- ---- the changes and the tables of values

changed : (ts : List PlacedTransaction) → flat_map (λ t. statements_changes t.statements) ts ≡ changes_of (map transaction_value ts)
changed ts = simp flat_map-map

-- the tables of the maps of groups, before each is taken once
abbrev map_tables : List Transaction → List Table
map_tables ts = flat_map (λ t. flat_map (λ s. map (λ m. table_of m.body) s.maps) t.statements) ts

named : (ts : List PlacedTransaction) → flat_map (λ t. statements_tables t.statements) ts ≡ map_tables (map transaction_value ts)
named ts = simp (flat_map-map, map-map)

-- ---- of the groups of a log

pub changes_same : (bytes : List ℕ) (sel : Selection) → placed_changes (placed_groups bytes sel) ≡ changes_of (groups bytes sel)
unfolding groups
changes_same bytes sel = append-nil (flat_map (λ t. statements_changes t.statements) (placed_groups bytes sel)) ∙ changed (placed_groups bytes sel)

pub tables_same : (bytes : List ℕ) (sel : Selection) → first_tables [] (placed_tables (placed_groups bytes sel)) ≡ tables_of (groups bytes sel)
unfolding groups
tables_same bytes sel = ap (first_tables []) (append-nil (flat_map (λ t. statements_tables t.statements) (placed_groups bytes sel)) ∙ named (placed_groups bytes sel))

-- how many there are
pub many_same : (bytes : List ℕ) (sel : Selection) → length (first_tables [] (placed_tables (placed_groups bytes sel))) ≡ length (counts_of (groups bytes sel))
many_same bytes sel = ap length (tables_same bytes sel) ∙ sym (length-map (tables_of (groups bytes sel)) (count_of (changes_of (groups bytes sel))))

-- those of one table
pub counts_same : (bytes : List ℕ) (sel : Selection) (n : ℕ) (c : TableCount)
    → option_map (count_of (placed_changes (placed_groups bytes sel))) (slice_get (first_tables [] (placed_tables (placed_groups bytes sel))) n) ≡ Some c
    → slice_get (counts_of (groups bytes sel)) n ≡ Some c
counts_same bytes sel n c told =
    let at = slice_get-map (count_of (changes_of (groups bytes sel))) (tables_of (groups bytes sel)) n in
    grind (arith, changes_same bytes sel, tables_same bytes sel)

-- ---- tables by their numbers

-- how many tables the maps of the groups have
pub many_firsts : (tables : List Table) (numbers : List ℕ) (ts : List Table) → map (λ n. slice_get tables n) numbers ≡ map Some (first_tables [] ts) → length numbers ≡ length (first_tables [] ts)
many_firsts tables numbers ts are = sym (length-map numbers (λ n. slice_get tables n)) ∙ ap length are ∙ length-map (first_tables [] ts) Some
