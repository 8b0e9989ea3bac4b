-- What a contract sees of what was seen of logs.
use Rattle.std.specs.Prelude.{◌≡◌, List}
use Rattle.blog_choice.specs.code.Views.{choice_value}
use Rattle.blog_request.specs.declared.wanted.Wanted.{Wanted}
use Rattle.blog_reasons.specs.declared.reasons.Reasons.{Reasons}
use Rattle.blog_reasons.specs.Reasons.{Looked, all_tables, all_units}
use Rattle.blog_reasons.specs.code.TablesView.{AreSeenTables}
use Rattle.blog_reasons.specs.code.UnitsView.{AreSeenUnits}

-- these logs were looked at, and this is wanted of them
pub record HasLooked {A : Type 0} (w : Wanted) (logs : List Looked) (reasons : Reasons A) : Type 0 where
  pub wanted : reasons.wanted ≡ w
  pub units : AreSeenUnits w (all_units logs) reasons.units
  pub tables : AreSeenTables (choice_value w.choice) (all_tables logs) reasons.tables
