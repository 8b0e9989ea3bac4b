use Rattle.std.proofs.Common.{◌-◌, ◌<◌, ◌≤◌, length}
use Rattle.blog_event.specs.code.LogView.{log_bytes}
use Rattle.blog_trans.specs.Selection.{selection_of}
use Rattle.blog_trans.specs.code.BuilderView.{IsWithin}
use Rattle.blog_trans.proofs.WalkCode.{Left}
use Rattle.blog_trans.proofs.builder.IndexBuilder.walk.Given as goal

abbrev pub invariant-events : goal.invariant-events
invariant-events g l = record {
  left : Left (log_bytes l.log) (selection_of l.sel) l.at l.self;
  behind : 4 < l.at;
  inside : l.at ≤ length (log_bytes l.log);
  few : IsWithin l.at l.self;
}

abbrev pub decreases-events : goal.decreases-events
decreases-events g l = length (log_bytes l.log) - l.at
