use Rattle.std.proofs.Common.{◌≡◌, ap, drop, length, sym, true, ◌∙◌}
use Rattle.blog_later.specs.code.EventChanges.{events_changes}
use Rattle.blog_later.proofs.EventChanges.{changed-groups}
use Rattle.blog_pairs.specs.Steps.{pairs_with, unmarked}
use Rattle.blog_pairs.specs.code.TableView.{pairs_told}
use Rattle.blog_trans.specs.Changes.{changes}
use Rattle.blog_trans.specs.code.GroupEventsView.{event_seen, events_left}
use Rattle.blog_trans.specs.code.IndexView.{index_bytes, index_selection}
use Rattle.blog_differences.proofs.Adding.{chosen_event, event_marks, selected_none}
use Rattle.blog_differences.proofs.selected.add_index.Goals as goal

pub loop-event-init : goal.loop-event-init
loop-event-init g c =
    let index = c.args.index.now in
    let left : events_changes (events_left c.into_iter-event-iterator.result) ≡ changes (index_bytes index) (index_selection index) =
    ap (λ events. events_changes (events_left events)) c.into_iter-event-iterator.ensures.into_iter_gives
    ∙ ap events_changes c.in_turn-event-items.ensures ∙ changed-groups (index_bytes index) (index_selection index) in
    record {
      next = tt;
      finite = tt;
      pairs = ap (λ cs. pairs_with true (unmarked c.args.marks.now cs) (pairs_told c.args.table.now)) left;
      others = ap (λ cs. drop (length cs) c.args.marks.now) left;
    }

pub loop-event-preserved : goal.loop-event-preserved
loop-event-preserved g c =
    let e = event_seen c.in-Some.event in
    let before = events_left c.loop-event.event-iterator in
    let rest = events_left c.next.new.self in
    let first = c.in-Some.ensures.steps.first in
    record {
      next = tt;
      finite = tt;
      pairs = chosen_event e before rest c.loop-event.left.now _ (pairs_told c.loop-event.table) _ _ first c.in_ok-left.ensures.pairs c.in_ok-left.ensures.others c.loop-event.invariant.pairs;
      others = event_marks e before rest c.loop-event.left.now _ _ first c.in_ok-left.ensures.others c.loop-event.invariant.others;
    }

pub returns-clause-pairs : goal.returns-clause-pairs
returns-clause-pairs g c =
    let left = c.loop-event.left.now in
    let ps = pairs_told c.loop-event.table in
    selected_none left ps
    ∙ sym (ap (λ es. pairs_with true (unmarked left (events_changes es)) ps) c.in-None.ensures.steps.first.0)
    ∙ c.loop-event.invariant.pairs
