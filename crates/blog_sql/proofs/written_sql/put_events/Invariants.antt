use Rattle.std.proofs.Common.{◌≡◌, ℕ, ◌≤◌, ◌++◌, length, map}
use Rattle.std.specs.List.{AllByRecursion}
use Rattle.blog_device.specs.Watched.{device_of, has_failed}
use Rattle.blog_event.specs.Event.{event_size}
use Rattle.blog_event.specs.File.{end_of}
use Rattle.blog_flash.specs.Written.{event_written}
use Rattle.blog_flash.proofs.WritingOut.{IsOnTheWay}
use Rattle.blog_sql.specs.Changed.{changed}
use Rattle.blog_sql.specs.code.Walk.{HasRoom, left_of}
use Rattle.blog_sql.proofs.written_sql.put_events.Given as goal

-- what is printed, with what is left for the events to come
abbrev pub invariant-events : goal.invariant-events
invariant-events g l = record {
  can : g.E.WrittenEvents.can_next l.events;
  way : IsOnTheWay (g.W.Write.contents (device_of l.fn.writer)) (g.W.Write.contents (device_of l.writer))
      (l.fn.out.chunk.items ++ left_of l.fn.out (map (changed l.how) (g.E.WrittenEvents.to_come l.fn.events)))
      (l.out.chunk.items ++ left_of l.out (map (changed l.how) (g.E.WrittenEvents.to_come l.events)));
  keeps : (n : ℕ) → HasRoom n l.fn.out → HasRoom n l.out;
  room : AllByRecursion (λ e. HasRoom (event_size e) l.fn.out) (map event_written (map (changed l.how) (g.E.WrittenEvents.to_come l.events)));
  short : end_of l.out.pos (map event_written (map (changed l.how) (g.E.WrittenEvents.to_come l.events))) ≤ 4294967295;
  mark : has_failed l.writer ≡ has_failed l.fn.writer;
}

abbrev pub decreases-events : goal.decreases-events
decreases-events g l = length (g.E.WrittenEvents.to_come l.events)
