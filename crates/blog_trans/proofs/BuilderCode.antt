-- What one more event makes of what is kept.
use Rattle.std.proofs.Common.{◌≡◌, ℕ, Bool, List, [], ◌∷◌, ◌++◌, map, filter, refl, sym, ap, ◌∙◌, subst, Some, arith}
use Rattle.std.specs.List.{flat_map}
use Rattle.std.proofs.lemmas.List.{append_assoc, append-nil}
use Rattle.std.proofs.lemmas.Simd.{map-map}
use Rattle.indexmap.specs.IndexMap.{values}
use Rattle.blog_event.specs.File.{Placed}
use Rattle.blog_row.specs.TableMap.{Table}
use Rattle.blog_trans.specs.declared.checker.Checker.{Checker}
use Rattle.blog_trans.specs.declared.counts.Counts.{Counts}
use Rattle.blog_trans.specs.Selection.{Selection}
use Rattle.blog_trans.specs.Groups.{PlacedRows, PlacedStatement, PlacedTransaction, rows_value, transaction_if}
use Rattle.blog_trans.specs.Changes.{Change, table_of, changes_of_rows}
use Rattle.blog_trans.specs.code.Progress.{Open, appended_if, with_rows, ended}
use Rattle.blog_trans.specs.code.StatementMaps.{MapFacts, used_maps, used_of}
use Rattle.blog_trans.specs.code.ListsView.{open_behind, between_statements, closed_by}
use Rattle.blog_trans.specs.code.CheckerView.{HasChecked}
use Rattle.blog_trans.specs.code.CountsView.{AreCounts}
use Rattle.blog_trans.specs.code.BuilderView.{statements_changes, progress_changes, statements_tables, progress_tables}
use Rattle.blog_trans.proofs.Columns.{flat_push}

-- ---- the changes and the tables of what is kept

-- with one more rows event
pub changes-rows : (done : List PlacedTransaction) (o : Open) (r : PlacedRows)
    → progress_changes (open_behind done o) ++ changes_of_rows (rows_value r) ≡ progress_changes (open_behind done (with_rows (Some r) o))
changes-rows done o r = grind (arith, append_assoc, flat_push)

-- at the end of a statement
changes-closed : (done : List PlacedTransaction) (o : Open) (ms : List Placed) → progress_changes (open_behind done o) ≡ progress_changes (open_behind done (closed_by ms o))
changes-closed done o ms = grind (arith, append-nil, flat_push)

tables-closed : (done : List PlacedTransaction) (o : Open) (ms : List Placed) → (o.rows ≡ [] → ms ≡ [])
    → progress_tables (open_behind done o) ++ map (λ m. table_of m.event.body) ms ≡ progress_tables (open_behind done (closed_by ms o))
tables-closed done o ms none = grind (arith, append_assoc, append-nil, flat_push)

-- at the end of a transaction
flat-ended : {B : Type 0} (f : List PlacedStatement → List B) → f [] ≡ [] → (done : List PlacedTransaction) (begin p : Placed) (ss : List PlacedStatement)
    → flat_map (λ t. f t.statements) done ++ f ss ≡ flat_map (λ t. f t.statements) (appended_if done (transaction_if (record { begin = begin; inside = []; end = p }) ss)) ++ []
flat-ended f none done begin p [] = ap (λ xs. flat_map (λ (t : PlacedTransaction). f t.statements) done ++ xs) none
flat-ended f none done begin p (s ∷ ss) = sym (append-nil _ ∙ flat_push (λ (t : PlacedTransaction). f t.statements) done (record { begin = begin; statements = s ∷ ss; end = p }))

-- ---- the used maps

filter-map : {X Y : Type 0} (test : Y → Bool) (f : X → Y) (xs : List X) → filter test (map f xs) ≡ map f (filter (λ x. test (f x)) xs)
filter-map test f [] = refl
filter-map test f (x ∷ xs) = let others = filter-map test f xs in grind arith

-- where those begin that the program holds, and their bodies, are those of the log's
pub used-held : {A B : Type 0} (f : ℕ → List ℕ → B) (checker : Checker A) (sel : Selection) (statement earlier : List Placed) → HasChecked sel statement earlier checker
    → map (λ m. f m.at m.body.now) (used_maps (values checker.maps)) ≡ map (λ m. f m.pos m.event.body) (used_of sel statement)
used-held f checker sel statement earlier knows =
    simp (filter-map, map-map) (simp (filter-map, map-map) at (ap (λ facts. map (λ (x : MapFacts). f x.at x.body) (filter (λ (x : MapFacts). x.used) facts)) knows.maps_are))

-- ---- the counts of what is kept

pub closed-counts : {A : Type 0} (tables : List Table) (counts : Counts A) (done : List PlacedTransaction) (o : Open) (ms : List Placed) → (o.rows ≡ [] → ms ≡ [])
    → AreCounts tables (progress_changes (open_behind done o)) (progress_tables (open_behind done o) ++ map (λ m. table_of m.event.body) ms) counts
    → AreCounts tables (progress_changes (open_behind done (closed_by ms o))) (progress_tables (open_behind done (closed_by ms o))) counts
closed-counts tables counts done o ms none = subst (λ (x : List Change × List Table). AreCounts tables x.0 x.1 counts) (λ i. (changes-closed done o ms i, tables-closed done o ms none i))

pub ended-counts : {A : Type 0} (tables : List Table) (counts : Counts A) (done : List PlacedTransaction) (begin : Placed) (ss : List PlacedStatement) (p : Placed)
    → AreCounts tables (progress_changes (open_behind done (between_statements begin ss))) (progress_tables (open_behind done (between_statements begin ss))) counts
    → AreCounts tables (progress_changes (ended p done (between_statements begin ss))) (progress_tables (ended p done (between_statements begin ss))) counts
ended-counts tables counts done begin ss p =
    grind (arith, append-nil (statements_changes ss), flat-ended statements_changes refl done begin p ss, flat-ended statements_tables refl done begin p ss)
