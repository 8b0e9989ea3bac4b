use Rattle.std.proofs.Common.{[], refl, arith}
use Rattle.std.proofs.lemmas.List.{drop_all}
use Rattle.blog_split.specs.code.CutView.{cut_to_come, maps_left}
use Rattle.blog_split.specs.code.CutWritten.{cut_written}
use Rattle.blog_split.proofs.Going.{is-other, other-can, other-skips, skips-ahead, skips-by, steps-ahead, skips-steps}
use Rattle.blog_split.proofs.cut_events.CutEvents.skip_other.Goals as goal

pub returns-clause-sound : goal.returns-clause-sound
returns-clause-sound g c =
    let before = c.args.self.now in
    let to_come = g.E.WrittenEvents.to_come in
    let (through, no_map, no_rows) = c.requires.ready in
    let ahead = rw (through.rows) at c.requires.sound.next in
    let steps = skips-steps to_come before.events c.skip_event.new.self c.skip_event.result c.skip_event.ensures.first in
    let rest = steps-ahead before.next (to_come before.events) (to_come before.ahead) (to_come c.skip_event.new.self) ahead steps in
    record {
      events = c.skip_event.ensures.can;
      ahead = c.skip_event-self.ensures.can;
      counted = rw (through.rows) refl;
      next = rw (through.rows, rest) (skips-ahead to_come before.ahead c.skip_event-self.new.self c.skip_event-self.result c.skip_event-self.ensures.first);
      can_be_cut = rw (through.rows) (other-can before.most (maps_left before.is_last before.maps.items) (to_come before.events) (to_come c.skip_event.new.self)
          (is-other before.next (to_come before.events) (to_come before.ahead) ahead no_map no_rows) steps (rw (through.rows) at c.requires.sound.can_be_cut));
      used = c.requires.sound.used;
    }

pub returns-clause-first : goal.returns-clause-first
returns-clause-first g c =
    let before = c.args.self.now in
    let to_come = g.E.WrittenEvents.to_come in
    let (through, no_map, no_rows) = c.requires.ready in
    let ahead = rw (through.rows) at c.requires.sound.next in
    let none = drop_all before.given before.used.items (omega (arith, through.maps)) in
    let maps = maps_left before.is_last before.maps.items in
    skips-by (cut_to_come to_come) before c.skip_event.result _ (cut_written before.limit maps [] (to_come before.events)) (cut_written before.limit [] [] (to_come c.skip_event.new.self))
    (rw (none, through.rows) refl) (rw (none, through.rows) refl)
    (other-skips to_come before.events c.skip_event.new.self before.limit maps c.skip_event.result c.skip_event.ensures.first (is-other before.next (to_come before.events) (to_come before.ahead) ahead no_map no_rows))
