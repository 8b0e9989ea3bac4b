use Rattle.std.proofs.Common.{append_assoc, filter, map, take, subst, sym, arith, ◌∙◌}
use Rattle.std.proofs.lemmas.List.{drop_all, length-map}
use Rattle.std.proofs.lemmas.List.Sorted.{IsNonDecreasingBy-from_sort}
use Rattle.std.proofs.lemmas.Map.Keys.{IsStrictlyIncreasing-from_distinct}
use Rattle.blog_flash.specs.Written.{Maps, rows_written}
use Rattle.blog_split.specs.Cuts.{is_used_by}
use Rattle.blog_split.specs.code.CutWritten.{rows_among}
use Rattle.blog_split.specs.code.Marks.{AreFlags, event_told}
use Rattle.blog_split.proofs.Flags.{flags-moved, lent-back}
use Rattle.blog_split.proofs.Marks.{marks-moved, used-are}
use Rattle.blog_split.proofs.cut_events.CutEvents.open_piece.Goals as goal

pub invariant_of-self-clause-listed : goal.invariant_of-self-clause-listed
invariant_of-self-clause-listed g c = let before = c.args.self.now in (c.sort_ids.ensures.table (map event_told before.maps.items) before.listed before.ordered).all

pub invariant_of-self-clause-ordered : goal.invariant_of-self-clause-ordered
invariant_of-self-clause-ordered g c = λ sorted. let before = c.args.self.now in (c.sort_ids.ensures.table (map event_told before.maps.items) before.listed before.ordered).ordered

pub invariant_of-self-clause-flagged : goal.invariant_of-self-clause-flagged
invariant_of-self-clause-flagged g c =
    let before = c.args.self.now in
    subst (AreFlags c.unmark.new.used.items)
    (sym (lent-back before.flags.len c.unmark.new.flags before.flags.items (omega (arith, c.unmark.auto.flags, c.deref_mut.ensures.len)))) c.unmark.ensures.flags

pub invariant_of-self-2-clause-flagged : goal.invariant_of-self-2-clause-flagged
invariant_of-self-2-clause-flagged g c =
    let cut = c.mark_piece.new.self in
    flags-moved cut.used.items c.sort_unstable.new.self.items cut.flags.items c.sort_unstable.ensures.permutation cut.flagged

pub returns-clause-sound : goal.returns-clause-sound
returns-clause-sound g c =
    let before = c.args.self.now in
    let cut = c.mark_piece.new.self in
    let own = map event_told before.maps.items in
    let marked = c.mark_piece.ensures.first in
    let sound = c.mark_piece.ensures.sound in
    let piece = rows_among (take cut.rows (g.E.WrittenEvents.to_come before.events)) in
    let moved = marks-moved own piece cut.used.items c.sort_unstable.new.self.items marked.marks c.sort_unstable.ensures.permutation in
    record {
      events = sound.events;
      ahead = sound.ahead;
      counted = sound.counted;
      next = sound.next;
      can_be_cut = sound.can_be_cut;
      used = rw marked.maps (λ n d within. omega (arith, moved.within n d within, length-map before.maps.items event_told));
    }

pub returns-clause-left : goal.returns-clause-left
returns-clause-left g c =
    let before = c.args.self.now in
    let cut = c.mark_piece.new.self in
    let own = map event_told before.maps.items in
    let marked = c.mark_piece.ensures.first in
    let piece = rows_among (take cut.rows (g.E.WrittenEvents.to_come before.events)) in
    let sorted = c.sort_unstable.new.self.items in
    let moved = marks-moved own piece cut.used.items sorted marked.marks c.sort_unstable.ensures.permutation in
    let rises = IsStrictlyIncreasing-from_distinct sorted (IsNonDecreasingBy-from_sort (λ n. n) sorted c.sort_unstable.ensures.sorted)
    (flags-moved cut.used.items sorted cut.flags.items c.sort_unstable.ensures.permutation cut.flagged).once in
    let used = used-are own piece sorted moved rises in
    rw (marked.limit, marked.events, marked.maps, marked.given, used.maps_are, c.requires.open, c.requires.no_rows, drop_all before.given before.used.items (omega (arith, c.requires.no_maps)))
    (sym (marked.cut ∙ append_assoc (map Maps (filter (is_used_by piece) own)) (rows_written piece) _))
