-- What a contract sees of a list's numbers.
use Rattle.std.specs.Prelude.{◌≡◌, ℕ, ◌+◌, List, [], ◌∷◌, ◌++◌, Result, Ok, Err, codes}
use Rattle.blog_event.specs.declared.fault.Fault.{Fault}
use Rattle.blog_trans.specs.Changes.{TableCount}
use Rattle.blog_request.specs.declared.wanted.Concern.{Concern}
use Rattle.blog_request.specs.declared.wanted.Concern.TheVariants.{Wanted as IsWanted, PassedOver, Other}
use Rattle.blog_list.specs.declared.listing.Form.{Form}
use Rattle.blog_list.specs.declared.listing.Form.TheVariants.{Text, Json}
use Rattle.blog_list.specs.declared.totals.Totals.{Totals}
use Rattle.blog_list.specs.Json.{json_totals}
use Rattle.blog_list.specs.Lines.{LogList, at_most, line_unless_0, numbered, rows_of, sum_damaged, sum_passed_over, sum_refused, sum_rows, sum_units}

-- a unit with these changes is counted
abbrev pub HasAdded : Totals → Totals → Result (List TableCount) Fault → Type 0
HasAdded old new (Ok counts) = (new.units ≡ at_most (old.units + 1)) × (new.refused ≡ old.refused) × (new.rows ≡ at_most (old.rows + rows_of counts))
    × (new.passed_over ≡ old.passed_over) × (new.damaged ≡ old.damaged)
HasAdded old new (Err fault) = (new.units ≡ at_most (old.units + 1)) × (new.refused ≡ at_most (old.refused + 1)) × (new.rows ≡ old.rows)
    × (new.passed_over ≡ old.passed_over) × (new.damaged ≡ old.damaged)

-- the same if it is wanted; one that is passed over is counted as that
abbrev pub HasCounted : Concern → Totals → Totals → Result (List TableCount) Fault → Type 0
HasCounted IsWanted old new changes = HasAdded old new changes
HasCounted PassedOver old new changes = (new.units ≡ old.units) × (new.refused ≡ old.refused) × (new.rows ≡ old.rows)
    × (new.passed_over ≡ at_most (old.passed_over + 1)) × (new.damaged ≡ old.damaged)
HasCounted Other old new changes = new ≡ old

-- so many damaged events are counted
abbrev pub HasDamaged : Totals → Totals → ℕ → Type 0
HasDamaged old new n = (new.units ≡ old.units) × (new.refused ≡ old.refused) × (new.rows ≡ old.rows)
    × (new.passed_over ≡ old.passed_over) × (new.damaged ≡ at_most (old.damaged + n))

-- these are the numbers of what is listed of logs
pub record AreTotals (totals : Totals) (ls : List LogList) : Type 0 where
  pub units_are : totals.units ≡ at_most (sum_units ls)
  pub refused_are : totals.refused ≡ at_most (sum_refused ls)
  pub rows_are : totals.rows ≡ at_most (sum_rows ls)
  pub passed_over_are : totals.passed_over ≡ at_most (sum_passed_over ls)
  pub damaged_are : totals.damaged ≡ at_most (sum_damaged ls)

-- a log more is counted
abbrev pub CountsLog : Totals → Totals → LogList → Type 0
CountsLog old new l = (before : List LogList) → AreTotals old before → AreTotals new (before ++ l ∷ [])

-- the last lines, as text
abbrev pub totals_text : Totals → List ℕ
totals_text t = numbered (codes "units ") t.units ++ (numbered (codes ", not undoable ") t.refused ++ (numbered (codes ", rows ") t.rows ++ (codes "\n"
    ++ (line_unless_0 (codes "statements passed over ") t.passed_over ++ line_unless_0 (codes "damaged events passed over ") t.damaged))))

-- in a form
abbrev pub totals_put : Form → Totals → List ℕ
totals_put Text t = totals_text t
totals_put Json t = json_totals t
