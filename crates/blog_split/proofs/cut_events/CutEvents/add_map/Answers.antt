use Rattle.std.proofs.Common.{Some, sym, arith}
use Rattle.std.proofs.lemmas.List.{drop_all}
use Rattle.blog_trans.specs.declared.group_events.SkippedEvent.TheVariants as over
use Rattle.blog_split.proofs.Going.{map-first, skips-steps, steps-ahead}
use Rattle.blog_split.proofs.cut_events.CutEvents.add_map.Goals as goal

pub invariant_of-self-clause-flagged : goal.invariant_of-self-clause-flagged
invariant_of-self-clause-flagged g c = let before = c.args.self.now in c.push_flag.ensures.flags before.used.items before.flagged

pub invariant_of-self-clause-apart : goal.invariant_of-self-clause-apart
invariant_of-self-clause-apart g c =
    let (w, first, is) = rw (c.requires.next, c.requires.no_rows) at c.requires.sound.next in
    let can = rw (c.requires.open, c.requires.no_rows, first, is) at c.requires.sound.can_be_cut in
    rw c.push_map.ensures.maps can.2

pub returns-clause-left : goal.returns-clause-left
returns-clause-left g c =
    let before = c.args.self.now in
    let to_come = g.E.WrittenEvents.to_come in
    let (w, first, is) = rw (c.requires.next, c.requires.no_rows) at c.requires.sound.next in
    let steps = skips-steps to_come before.events c.skip_event-self.new.self c.skip_event-self.result c.skip_event-self.ensures.first in
    let rest = steps-ahead (Some (over.Map c.args.event)) (to_come before.events) (to_come before.ahead) (to_come c.skip_event-self.new.self) (w, first, is) steps in
    rw (drop_all before.given before.used.items (omega (arith, c.requires.no_maps)), c.requires.no_rows, c.requires.open, c.push_map.ensures.maps, rest, first, is) (sym (map-first before.limit _ _ (to_come before.ahead)))
