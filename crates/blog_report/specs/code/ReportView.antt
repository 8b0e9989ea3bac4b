-- What a contract sees of a report.
use Rattle.std.specs.Prelude.{◌≡◌, ℕ, nat_lt, if◌then◌else◌, List, [], ◌∷◌, ◌++◌, length, map, Vec}
use Rattle.blog_report.specs.declared.facts.UnitFact.{UnitFact}
use Rattle.blog_report.specs.declared.report.Refused.{Refused}
use Rattle.blog_report.specs.declared.report.Report.{Report}
use Rattle.blog_report.specs.declared.sums.RowSums.{RowSums}
use Rattle.blog_report.specs.Cells.{all_rows}
use Rattle.blog_report.specs.Said.{Said}
use Rattle.blog_report.specs.code.RankingView.{ranked_units}
use Rattle.blog_report.specs.code.TimelineView.{timeline_rows}

-- its totals are these
abbrev pub HasTotals : {A : Type 0} → ℕ → ℕ → RowSums → Report A → Type 0
HasTotals units refused rows report = (report.totals.units ≡ units) × (report.totals.refused ≡ refused) × (report.totals.rows ≡ rows)

-- the rows of all intervals, and those of all tables, are the totals
abbrev pub IsWhole : {A : Type 0} → Report A → Type 0
IsWhole report = (timeline_rows report.timeline ≡ report.totals.rows) × (all_rows report.tables.sums.entries ≡ report.totals.rows)

-- units that can't be undone, and why
abbrev pub told_of : {A : Type 0} → List (Refused A) → List (UnitFact × List ℕ)
told_of refused = map (λ r. (r.unit, r.why.items)) refused

-- with another one, if these are fewer than 20
abbrev pub with_refused : UnitFact → List ℕ → List (UnitFact × List ℕ) → List (UnitFact × List ℕ)
with_refused unit why us = if nat_lt (length us) 20 then us ++ (unit, why) ∷ [] else us

-- rows by the names of their tables
abbrev pub named_rows : {A : Type 0} → List (Vec ℕ A × RowSums) → List (List ℕ × RowSums)
named_rows entries = map (λ e. (e.0.items, e.1)) entries

-- what it says
abbrev pub said_of : {A : Type 0} → Report A → Said
said_of report = record {
  units = report.totals.units;
  refused = report.totals.refused;
  rows = report.totals.rows;
  tables = named_rows report.tables.sums.entries;
  largest = ranked_units report.largest;
  longest = ranked_units report.longest;
  first_refused = map (λ r. r.unit) report.refused.items;
}
