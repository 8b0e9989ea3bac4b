-- What comes of adding to a report.
use Rattle.std.specs.Prelude.{◌≡◌, ◌+◌, ℕ, List, Option, Result, Ok, Err, if◌then◌else◌}
use Rattle.blog_choice.specs.Choice.{Choice, chooses}
use Rattle.blog_event.specs.declared.fault.Fault.{Fault}
use Rattle.blog_report.specs.Said.{Said, with_rows}
use Rattle.blog_report.specs.Sums.{at_most, plus}
use Rattle.blog_report.specs.code.ReportView.{IsWhole, said_of}
use Rattle.blog_report.specs.code.TablesView.{table_key}
use Rattle.blog_report.specs.declared.report.Report.{Report}
use Rattle.blog_report.specs.declared.sums.RowSums.{RowSums}
use Rattle.blog_sum.specs.declared.fault.SumFault.{SumFault}
use Rattle.blog_trans.specs.Changes.{TableCount, counts_of}
use Rattle.blog_trans.specs.Groups.{groups}
use Rattle.blog_trans.specs.code.IndexView.{index_bytes, index_groups, index_selection}
use Rattle.blog_trans.specs.declared.groups.Index.{Index}
use Rattle.list_run.specs.Listed.{AreRead, Listing, NamedLog, first_end_from}
use Rattle.list_run.specs.declared.given.GivenLog.{GivenLog}
use Rattle.show_run.specs.Reported.{rows_of, seconds_from, units_from, with_logs}

-- it says this, and its numbers still add up if they did
pub record Becomes {A : Type 0} (old new : Report A) (said : Said) : Type 0 where
  pub is : said_of new ≡ said
  pub whole : IsWhole old → IsWhole new

-- the rows of a table, if it is chosen, are added to what is said
abbrev pub with_if : Choice → TableCount → Said → Said
with_if choice c s = if chooses choice c.table.schema c.table.name then with_rows (table_key c.table.schema c.table.name) (rows_of c) s else s

-- they are added to rows
abbrev pub plus_if : Choice → TableCount → RowSums → RowSums
plus_if choice c rows = if chooses choice c.table.schema c.table.name then plus rows (rows_of c) else rows

-- the rows by table of the groups of an index
abbrev pub index_counts : {A : Type 0} → Index A → List TableCount
index_counts index = counts_of (groups (index_bytes index) (index_selection index))

-- how many seconds the groups of a unit took
abbrev pub seconds_told : {A : Type 0} → ℕ → Result (Index A) Fault → ℕ
seconds_told time (Ok index) = seconds_from time (index_groups index)
seconds_told time (Err fault) = 0

-- given logs, from the n-th on, were read and are added to what was said; their units are counted
abbrev pub Reports : {R : Type 0} → (R → Option (List ℕ)) → Listing → ℕ → List (GivenLog R) → Option (ℕ × SumFault) → ℕ → ℕ → Said → Said
    → Type 0
Reports known l n givens end count more old new =
    (logs : List NamedLog) × AreRead known givens logs × (first_end_from l n logs ≡ end)
    × (more ≡ at_most (count + units_from l n logs)) × (new ≡ with_logs l n logs old)
