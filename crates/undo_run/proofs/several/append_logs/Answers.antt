-- One log after another.
use Rattle.std.proofs.Common.{◌≡◌, ◌+◌, ◌++◌, ◌∷◌, [], List, length, length-append, append_assoc, refl, sym, ap, ◌∙◌, arith}
use Rattle.std.specs.Vec.Iter.{into_iter_items}
use Rattle.list_run.proofs.Going.{all-taken}
use Rattle.list_run.specs.declared.given.GivenLog.{GivenLog}
use Rattle.undo_run.specs.Several.{joined_on}
use Rattle.undo_run.proofs.Joining.{all-joined, joins-on, none-joined, stops-joining}
use Rattle.undo_run.proofs.several.append_logs.Goals as goal

pub logs-init : goal.logs-init
logs-init g c = record {
  number = refl;
  rest = search;
  left = let gives = c.into_iter-given-iterator.ensures.into_iter_gives in ap length gives.0 ∙ sym c.args.more.ok.0 ∙ sym gives.1;
  joining = λ j is. none-joined g.L.Read.remaining j c.args.first is;
}

pub returns-in-Err : goal.returns-in-Err
returns-in-Err g c j is =
    let at = c.logs in
    let a = at.invariant.joining j is in
    stops-joining g.L.Read.remaining j at.yielded (into_iter_items c.next.new.self) c.args.more.items c.in-Some.given at.n at.logs c.in-Err.fault
    (ap (λ (xs : List (GivenLog _)). at.yielded ++ xs) (sym c.in-Some.ensures.steps.0) ∙ at.invariant.rest) at.invariant.number a (c.in-Err.ensures (joined_on j a.are) a.joined)

pub logs-preserved : goal.logs-preserved
logs-preserved g c =
    let at = c.logs in
    let steps : into_iter_items at.given-iterator ≡ c.in-Some.given ∷ into_iter_items c.next.new.self = c.in-Some.ensures.steps.0 in record {
      number = omega (arith, at.invariant.number, length-append at.yielded (c.in-Some.given ∷ []));
      rest = append_assoc at.yielded (c.in-Some.given ∷ []) (into_iter_items c.next.new.self) ∙ ap (λ (xs : List (GivenLog _)). at.yielded ++ xs) (sym steps) ∙ at.invariant.rest;
      left =
          let was = at.invariant.left in
          let gone = c.in-Some.ensures.steps.1 in
          let short = ap length steps in
          omega (arith, was, gone, short);
      joining = λ j is.
          let a = at.invariant.joining j is in
          joins-on g.row.A.Denot g.L.Read.remaining j at.yielded c.in-Some.given at.n at.logs c.in-Ok.with a (c.in-Ok.ensures (joined_on j a.are) a.joined);
    }

pub returns : goal.returns
returns g c j is =
    let every = all-taken c.logs.yielded (into_iter_items c.logs.given-iterator) c.args.more.items c.logs.invariant.rest (c.logs.invariant.left ∙ c.in-None.ensures.steps.0) in
    all-joined g.row.A.Denot g.L.Read.remaining j c.logs.yielded c.args.more.items c.logs.logs every (c.logs.invariant.joining j is)
