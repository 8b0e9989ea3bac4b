use Rattle.std.proofs.Common.{refl, arith, ◌-◌}
use Rattle.std.proofs.lemmas.List.{drop_all}
use Rattle.blog_flash.specs.code.WrittenView.{written_told}
use Rattle.blog_split.proofs.Going.{first-rows, some-rows}
use Rattle.blog_split.proofs.cut_events.CutEvents.rows_event.Goals as goal

pub returns-in_err-event : goal.returns-in_err-event
returns-in_err-event g c = absurd (some-rows c.args.self.now.rows (g.E.WrittenEvents.to_come c.args.self.now.events) c.requires.some c.requires.sound.counted c.in_err-event.ensures.first.0)

pub returns-clause-sound : goal.returns-clause-sound
returns-clause-sound g c =
    let before = c.args.self.now in
    let to_come = g.E.WrittenEvents.to_come in
    let first = first-rows (before.rows - 1) before.rows (to_come before.events) (written_told c.in_ok-event.event) (to_come c.next_event.new.self) (omega (arith, c.requires.some)) c.requires.sound.counted c.in_ok-event.ensures.first in
    record {
      events = c.next_event.ensures.can;
      ahead = c.requires.sound.ahead;
      counted = first.counted;
      next = rw (first.left) at c.requires.sound.next;
      can_be_cut = rw (first.left) at c.requires.sound.can_be_cut;
      used = c.requires.sound.used;
    }

pub returns-clause-first : goal.returns-clause-first
returns-clause-first g c =
    let before = c.args.self.now in
    let to_come = g.E.WrittenEvents.to_come in
    let first = first-rows (before.rows - 1) before.rows (to_come before.events) (written_told c.in_ok-event.event) (to_come c.next_event.new.self) (omega (arith, c.requires.some)) c.requires.sound.counted c.in_ok-event.ensures.first in
    record { first = rw (drop_all before.given before.used.items (omega (arith, c.requires.no_maps)), first.written, first.left, c.set_last.ensures) refl }
