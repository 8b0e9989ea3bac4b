use Rattle.std.proofs.Common.{◌≡◌, ◌-◌, ◌≤◌, None, drop, length}
use Rattle.std.specs.Prelude.{option_map}
use Rattle.std.specs.List.{last_or}
use Rattle.blog_event.specs.File.{placed_from, read}
use Rattle.blog_event.specs.code.LogView.{log_bytes}
use Rattle.blog_trans.specs.Places.{placed}
use Rattle.blog_units.specs.code.Boundaries.{events_behind}
use Rattle.undo_run.proofs.seen.next_log.Given as goal

-- the last event is the last of those from here on, or the one before them
abbrev pub invariant-events : goal.invariant-events
invariant-events l = record {
  within : l.pos ≤ length (log_bytes l.log);
  last_is : last_or (option_map placed l.last) (events_behind (log_bytes l.log) l.pos) ≡ last_or None (drop 1 (placed_from 4 (read (log_bytes l.log) None)));
}

abbrev pub decreases-events : goal.decreases-events
decreases-events l = length (log_bytes l.log) - l.pos
