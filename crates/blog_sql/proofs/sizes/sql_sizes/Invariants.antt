use Rattle.std.proofs.Common.{◌≡◌, ℕ, ◌+◌, ◌≤◌, length, map}
use Rattle.std.specs.List.{AllByRecursion}
use Rattle.blog_event.specs.Event.{event_size}
use Rattle.blog_event.specs.File.{end_of}
use Rattle.blog_flash.specs.Written.{event_written}
use Rattle.blog_flash.proofs.Lengths.{total}
use Rattle.blog_sql.specs.Changed.{changed}
use Rattle.blog_sql.proofs.sizes.sql_sizes.Given as goal

-- room for the events to come and for the largest so far is room for all
abbrev pub invariant-events : goal.invariant-events
invariant-events g l = record {
  can : g.E.WrittenEvents.can_next l.events;
  end : l.sizes.len + total (map event_written (map (changed l.how) (g.E.WrittenEvents.to_come l.events)))
      ≡ end_of l.fn.front_len (map event_written (map (changed l.how) (g.E.WrittenEvents.to_come l.fn.events)));
  short : l.sizes.len ≤ 4294967295;
  bounded : l.sizes.largest ≤ l.sizes.len;
  each : (room : ℕ) → l.sizes.largest ≤ room → AllByRecursion (λ e. event_size e ≤ room) (map event_written (map (changed l.how) (g.E.WrittenEvents.to_come l.events)))
      → AllByRecursion (λ e. event_size e ≤ room) (map event_written (map (changed l.how) (g.E.WrittenEvents.to_come l.fn.events)));
}

abbrev pub decreases-events : goal.decreases-events
decreases-events g l = length (g.E.WrittenEvents.to_come l.events)
