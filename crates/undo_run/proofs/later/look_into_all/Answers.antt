use Rattle.std.proofs.Common.{◌≡◌, ◌+◌, ◌++◌, ◌∷◌, [], List, length, map, length-append, append_assoc, refl, sym, ap, ◌∙◌, arith}
use Rattle.std.specs.Vec.Iter.{into_iter_items}
use Rattle.blog_choice.specs.code.ChosenView.{names_choice}
use Rattle.blog_later.specs.code.LookedView.{left_before}
use Rattle.list_run.proofs.Going.{all-taken}
use Rattle.list_run.specs.declared.given.GivenLog.{GivenLog}
use Rattle.undo_run.specs.After.{touches}
use Rattle.undo_run.specs.Taken.{whole_log}
use Rattle.undo_run.specs.code.Leaves.{Records}
use Rattle.undo_run.proofs.InTurn.{all-gone, goes-on, none-gone, stops}
use Rattle.undo_run.proofs.later.look_into_all.Goals as goal

pub logs-init : goal.logs-init
logs-init g c = record {
  number = refl;
  rest = search;
  left = let gives = c.into_iter-given-iterator.ensures.into_iter_gives in ap length gives.0 ∙ sym c.args.later.ok.0 ∙ sym gives.1;
  going = λ m ls seen. none-gone g.L.Read.remaining (left_before c.args.left.now c.args.lists) (names_choice c.args.names.now) m ls c.args.records c.args.tracked.now c.args.since seen;
}

pub returns-in-Err : goal.returns-in-Err
returns-in-Err g c m ls seen =
    let at = c.logs in
    let kept = left_before c.args.left.now c.args.lists in
    let choice = names_choice c.args.names.now in
    let gone = at.invariant.going m ls seen in
    let before = ls ++ map whole_log gone.logs in
    let taken = m + touches kept (map whole_log gone.logs) in
    (stops g.L.Read.remaining at.yielded (into_iter_items c.next.new.self) c.args.later.items c.in-Some.given at.n kept choice m taken ls before (Records c.args.records kept at.tracked c.look_into.new.tracked) (Records c.args.records kept c.args.tracked.now c.look_into.new.tracked) c.in-Err.fault
    (ap (λ (xs : List (GivenLog _)). at.yielded ++ xs) (sym c.in-Some.ensures.steps.0) ∙ at.invariant.rest) at.invariant.number
    (c.in-Err.ensures taken before gone.seen))

pub logs-preserved : goal.logs-preserved
logs-preserved g c =
    let at = c.logs in
    let kept = left_before c.args.left.now c.args.lists in
    let choice = names_choice c.args.names.now in
    let steps : into_iter_items at.given-iterator ≡ c.in-Some.given ∷ into_iter_items c.next.new.self = c.in-Some.ensures.steps.0 in record {
      number = omega (arith, at.invariant.number, length-append at.yielded (c.in-Some.given ∷ []));
      rest = append_assoc at.yielded (c.in-Some.given ∷ []) (into_iter_items c.next.new.self) ∙ ap (λ (xs : List (GivenLog _)). at.yielded ++ xs) (sym steps) ∙ at.invariant.rest;
      left =
          let was = at.invariant.left in
          let gone = c.in-Some.ensures.steps.1 in
          let short = ap length steps in
          omega (arith, was, gone, short);
      going = λ m ls seen.
          let gone = at.invariant.going m ls seen in
          goes-on g.row.A.Denot g.L.Read.remaining at.yielded c.in-Some.given at.n kept choice m ls c.args.records _ at.tracked _ at.since c.in-Ok.with gone (c.in-Ok.ensures (m + touches kept (map whole_log gone.logs)) (ls ++ map whole_log gone.logs) gone.seen);
    }

pub returns : goal.returns
returns g c m ls seen =
    let kept = left_before c.args.left.now c.args.lists in
    let every = all-taken c.logs.yielded (into_iter_items c.logs.given-iterator) c.args.later.items c.logs.invariant.rest (c.logs.invariant.left ∙ c.in-None.ensures.steps.0) in
    all-gone g.row.A.Denot g.L.Read.remaining c.logs.yielded c.args.later.items kept (names_choice c.args.names.now) m ls c.args.records _ c.logs.tracked c.logs.since every (c.logs.invariant.going m ls seen)
