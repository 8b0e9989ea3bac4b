-- What is known and kept of the events of the range so far, as the program holds it. `earlier` has them, the latest first.
use Rattle.std.specs.Prelude.{◌≡◌, ◌≤◌, Option, None, Result, MatchResult, ℕ, ◌+◌, List, [], ◌++◌, map, vec_len}
use Rattle.std.specs.Option.{option_map_or}
use Rattle.std.specs.List.{flat_map}
use Rattle.indexmap.specs.IndexMap.{index_map_len}
use Rattle.blog_event.specs.declared.fault.Fault.{Fault}
use Rattle.blog_event.specs.Fault.{Cause, fault_at}
use Rattle.blog_event.specs.File.{Placed}
use Rattle.blog_row.specs.TableMap.{Table}
pub use Rattle.blog_trans.specs.Places.{placed}
use Rattle.blog_trans.specs.declared.builder.IndexBuilder.{IndexBuilder}
use Rattle.blog_trans.specs.Selection.{Selection}
use Rattle.blog_trans.specs.code.TablesView.{tables_known}
use Rattle.blog_trans.specs.Places.{since}
use Rattle.blog_trans.specs.Groups.{PlacedRows, PlacedStatement, rows_value, PlacedTransaction}
use Rattle.blog_trans.specs.Changes.{Change, table_of, changes_of_rows}
use Rattle.blog_trans.specs.code.Progress.{Open, Progress, progress}
use Rattle.blog_trans.specs.Acceptance.{HavePassed, IsRefusal}
use Rattle.blog_trans.specs.code.CheckerView.{HasChecked}
use Rattle.blog_trans.specs.code.ListsView.{HasKept}
use Rattle.blog_trans.specs.code.CountsView.{AreCounts}

-- ---- the changes and the tables of what is kept

abbrev pub rows_changes : List PlacedRows → List Change
rows_changes rows = flat_map (λ r. changes_of_rows (rows_value r)) rows

abbrev pub statements_changes : List PlacedStatement → List Change
statements_changes ss = flat_map (λ s. rows_changes s.rows) ss

abbrev pub open_changes : Open → List Change
open_changes o = statements_changes o.statements ++ rows_changes o.rows

abbrev pub progress_changes : Progress → List Change
progress_changes k = flat_map (λ t. statements_changes t.statements) k.done ++ option_map_or open_changes k.current []

abbrev pub statements_tables : List PlacedStatement → List Table
statements_tables ss = flat_map (λ s. map (λ m. table_of m.event.body) s.maps) ss

abbrev pub progress_tables : Progress → List Table
progress_tables k = flat_map (λ t. statements_tables t.statements) k.done ++ option_map_or (λ o. statements_tables o.statements) k.current []

-- the same of groups as they stand in the log
abbrev pub placed_changes : List PlacedTransaction → List Change
placed_changes ts = progress_changes (record { done = ts; current = None })

abbrev pub placed_tables : List PlacedTransaction → List Table
placed_tables ts = progress_tables (record { done = ts; current = None })

-- ---- the builder

-- what is kept is this
pub record Keeps {A : Type 0} (k : Progress) (builder : IndexBuilder A) : Type 0 where
  pub lists : HasKept builder.lists k
  pub counts : AreCounts (tables_known builder.checker.layouts) (progress_changes k) (progress_tables k) builder.counts

-- the events passed, and the builder's parts hold what they are to the groups
pub record HasTaken {A : Type 0} (sel : Selection) (earlier : List Placed) (builder : IndexBuilder A) : Type 0 where
  pub passed : HavePassed sel earlier
  pub checker : HasChecked sel (since earlier) earlier builder.checker
  pub keeps : Keeps (progress sel earlier) builder

-- no number of the builder is above n
pub record IsWithin {A : Type 0} (n : ℕ) (builder : IndexBuilder A) : Type 0 where
  pub entries : vec_len builder.lists.entries + index_map_len builder.checker.maps ≤ n
  pub tables : index_map_len builder.checker.layouts ≤ n
  pub images : builder.counts.images ≤ n

-- what is told of an event whose first failing check is this one: it passed and is walked, or the log is refused at it
abbrev pub IsTakenOrRefused : {A : Type 0} → Option Cause → Selection → List Placed → ℕ → Result Unit Fault → IndexBuilder A → Type 0
IsTakenOrRefused wanted sel earlier pos result builder =
    MatchResult result (λ done. (wanted ≡ None) × HasTaken sel earlier builder) (λ fault. IsRefusal (fault_at pos wanted) fault)
