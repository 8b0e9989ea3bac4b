use Rattle.std.proofs.Common.{◌≡◌, ◌+◌, ◌≤◌, ◌++◌, length, map, vec_len}
use Rattle.std.specs.Prelude.{vec_capacity}
use Rattle.std.specs.List.{AllByRecursion}
use Rattle.blog_device.specs.Watched.{device_of, has_failed}
use Rattle.blog_event.specs.Event.{event_size}
use Rattle.blog_flash.specs.code.LaidOut.{text_from}
use Rattle.blog_flash.specs.Written.{event_written}
use Rattle.blog_flash.proofs.Lengths.{total}
use Rattle.blog_flash.proofs.WritingOut.{IsOnTheWay}
use Rattle.blog_flash.proofs.written_out.write_events.Given as goal

-- what the chunk holds, with the events to come behind it, and each of these has room in the chunk
abbrev pub invariant-events : goal.invariant-events
invariant-events g l = record {
  can : g.E.WrittenEvents.can_next l.events;
  way : IsOnTheWay (g.W.Write.contents (device_of l.fn.writer)) (g.W.Write.contents (device_of l.writer))
      (l.fn.chunk.items ++ text_from (vec_len l.fn.chunk) (map event_written (g.E.WrittenEvents.to_come l.fn.events)))
      (l.chunk.items ++ text_from (l.from + vec_len l.chunk) (map event_written (g.E.WrittenEvents.to_come l.events)));
  room : AllByRecursion (λ e. event_size e ≤ vec_capacity l.fn.chunk) (map event_written (g.E.WrittenEvents.to_come l.events));
  short : l.from + vec_len l.chunk + total (map event_written (g.E.WrittenEvents.to_come l.events)) ≤ 4294967295;
  capacity : vec_capacity l.fn.chunk ≤ vec_capacity l.chunk;
  mark : has_failed l.writer ≡ has_failed l.fn.writer;
}

abbrev pub decreases-events : goal.decreases-events
decreases-events g l = length (g.E.WrittenEvents.to_come l.events)
