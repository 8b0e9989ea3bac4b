-- What a report says of units and of the rows that they change.
use Rattle.std.specs.Prelude.{ℕ, ◌+◌, nat_eq, nat_lt, if◌then◌else◌, List, [], ◌∷◌, ◌++◌, length}
use Rattle.std.specs.Cmp.Lexicographic.{pointwise}
use Rattle.blog_report.specs.declared.facts.UnitFact.{UnitFact}
use Rattle.blog_report.specs.declared.ranking.Ranked.{Ranked}
use Rattle.blog_report.specs.declared.sums.RowSums.{RowSums}
use Rattle.blog_report.specs.Cells.{added_at}
use Rattle.blog_report.specs.Ranking.{kept}
use Rattle.blog_report.specs.Sums.{at_most, none, plus, rows_in}
use Rattle.blog_report.specs.code.RankingView.{measured}

-- How many units can be undone, how many can't, and how many rows they change; the rows by table, in the order in which the tables came; the
-- units with the most rows, and the longest; and the first that can't be undone.
pub record Said : Type 0 where
  pub units : ℕ
  pub refused : ℕ
  pub rows : RowSums
  pub tables : List (List ℕ × RowSums)
  pub largest : List Ranked
  pub longest : List Ranked
  pub first_refused : List UnitFact

abbrev pub nothing_said : Said
nothing_said = record { units = 0; refused = 0; rows = none; tables = []; largest = []; longest = []; first_refused = [] }

-- rows of the table with this key are added
abbrev pub with_rows : List ℕ → RowSums → Said → Said
with_rows key rows s = record s { rows = plus s.rows rows; tables = added_at (pointwise nat_eq) s.tables key rows }

-- a unit that can be undone
abbrev pub with_unit : UnitFact → Said → Said
with_unit unit s = record s {
  units = at_most (s.units + 1);
  largest = kept (measured (rows_in unit.rows) unit) s.largest;
  longest = kept (measured unit.seconds unit) s.longest;
}

-- one that can't, which is among the first if these are fewer than 20
abbrev pub with_refusal : UnitFact → Said → Said
with_refusal unit s = record s {
  refused = at_most (s.refused + 1);
  first_refused = if nat_lt (length s.first_refused) 20 then s.first_refused ++ unit ∷ [] else s.first_refused;
}
