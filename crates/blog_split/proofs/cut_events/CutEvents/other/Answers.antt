use Rattle.std.proofs.Common.{refl, arith}
use Rattle.std.proofs.lemmas.List.{drop_all}
use Rattle.blog_split.specs.code.CutView.{maps_left}
use Rattle.blog_split.proofs.Going.{is-other, other-can, other-gives, skips-ahead, steps-ahead, yields-steps}
use Rattle.blog_split.proofs.cut_events.CutEvents.other.Goals as goal

pub returns-clause-sound : goal.returns-clause-sound
returns-clause-sound g c =
    let before = c.args.self.now in
    let to_come = g.E.WrittenEvents.to_come in
    let (through, no_map, no_rows) = c.requires.ready in
    let ahead = rw (through.rows) at c.requires.sound.next in
    let steps = yields-steps to_come before.events c.next_event.new.self c.next_event.result c.next_event.ensures.first in
    let rest = steps-ahead before.next (to_come before.events) (to_come before.ahead) (to_come c.next_event.new.self) ahead steps in
    record {
      events = c.next_event.ensures.can;
      ahead = c.skip_event-self.ensures.can;
      counted = rw (through.rows) refl;
      next = rw (through.rows, rest) (skips-ahead to_come before.ahead c.skip_event-self.new.self c.skip_event-self.result c.skip_event-self.ensures.first);
      can_be_cut = rw (through.rows) (other-can before.most (maps_left before.is_last before.maps.items) (to_come before.events) (to_come c.next_event.new.self)
          (is-other before.next (to_come before.events) (to_come before.ahead) ahead no_map no_rows) steps (rw (through.rows) at c.requires.sound.can_be_cut));
      used = c.requires.sound.used;
    }

pub returns-clause-first : goal.returns-clause-first
returns-clause-first g c =
    let before = c.args.self.now in
    let to_come = g.E.WrittenEvents.to_come in
    let (through, no_map, no_rows) = c.requires.ready in
    let ahead = rw (through.rows) at c.requires.sound.next in
    record {
      first = rw (drop_all before.given before.used.items (omega (arith, through.maps)), through.rows)
          (other-gives to_come before.events c.next_event.new.self before.limit (maps_left before.is_last before.maps.items) c.next_event.result c.next_event.ensures.first
          (is-other before.next (to_come before.events) (to_come before.ahead) ahead no_map no_rows));
    }
