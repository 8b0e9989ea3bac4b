use Rattle.std.proofs.Common.{◌++◌, ◌-◌, ◌≤◌, List, length}
use Rattle.blog_event.specs.code.LogView.{log_bytes}
use Rattle.blog_row.specs.TableMap.{Table}
use Rattle.blog_units.specs.code.Boundaries.{events_behind}
use Rattle.blog_choice.specs.code.Views.{choice_value}
use Rattle.blog_reasons.specs.Reasons.{tables_named}
use Rattle.blog_reasons.specs.code.TablesView.{AreKnown, AreSeenTables}
use Rattle.blog_reasons.proofs.SeenTables.{IsSeeing}
use Rattle.blog_reasons.proofs.tables.SeenTables.look.Given as goal

-- what was seen, with the events that are left, is of all
abbrev pub invariant-events : goal.invariant-events
invariant-events g l = record {
  within : l.at ≤ length (log_bytes l.log);
  known : AreKnown (choice_value l.choice) l.self.has_chosen l.known;
  seeing : (ts : List Table) → AreSeenTables (choice_value l.choice) ts l.fn.self
      → IsSeeing (choice_value l.choice) (ts ++ tables_named (log_bytes l.log)) l.self (events_behind (log_bytes l.log) l.at);
}

abbrev pub decreases-events : goal.decreases-events
decreases-events g l = length (log_bytes l.log) - l.at
