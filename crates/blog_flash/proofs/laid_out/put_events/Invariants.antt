use Rattle.std.proofs.Common.{◌≡◌, ◌+◌, ◌≤◌, ◌++◌, length, map, vec_len}
use Rattle.std.specs.Prelude.{vec_capacity}
use Rattle.blog_event.specs.File.{end_of}
use Rattle.blog_flash.specs.code.LaidOut.{text_from}
use Rattle.blog_flash.specs.Written.{event_written}
use Rattle.blog_flash.proofs.Lengths.{total}
use Rattle.blog_flash.proofs.laid_out.put_events.Given as goal

-- what is laid out so far, with the events to come behind it
abbrev pub invariant-events : goal.invariant-events
invariant-events g l = record {
  can : g.E.WrittenEvents.can_next l.events;
  text : l.out.items ++ text_from (0 + vec_len l.out) (map event_written (g.E.WrittenEvents.to_come l.events))
      ≡ l.fn.out.items ++ text_from (vec_len l.fn.out) (map event_written (g.E.WrittenEvents.to_come l.fn.events));
  end : vec_len l.out + total (map event_written (g.E.WrittenEvents.to_come l.events)) ≡ end_of (vec_len l.fn.out) (map event_written (g.E.WrittenEvents.to_come l.fn.events));
  capacity : vec_capacity l.fn.out ≤ vec_capacity l.out;
}

abbrev pub decreases-events : goal.decreases-events
decreases-events g l = length (g.E.WrittenEvents.to_come l.events)
