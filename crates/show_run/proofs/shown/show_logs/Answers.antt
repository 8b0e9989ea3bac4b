use Rattle.std.proofs.Common.{◌≡◌, ◌+◌, ◌++◌, ℕ, List, [], ◌∷◌, length, length-append, append_assoc, Option, None, sym, ap, subst, ◌∙◌, arith}
use Rattle.std.specs.Option.{option_or}
use Rattle.std.specs.Vec.Iter.{into_iter_items}
use Rattle.blog_device.specs.Watched.{device_of}
use Rattle.blog_sum.specs.declared.fault.SumFault.{SumFault}
use Rattle.list_run.specs.Listed.{or_later}
use Rattle.list_run.specs.declared.given.GivenLog.{GivenLog}
use Rattle.show_run.specs.Shown.{Showing, ShowsGiven, ShowsLogs}
use Rattle.show_run.specs.code.Turns.{showing_of}
use Rattle.show_run.proofs.Turning.{all-shown, end-passed, none-later, not-shown, shown-first, shown-rest}
use Rattle.show_run.proofs.shown.show_logs.Goals as goal

pub logs-preserved : goal.logs-preserved
logs-preserved g c =
    let at = c.logs in
    let steps : into_iter_items at.given-iterator ≡ c.in-Some.given ∷ into_iter_items c.next.new.self = c.in-Some.ensures.steps.0 in
    let (log, read, ends, named) = c.in-Ok.ensures.shown in
    record {
      first = λ zero. absurd (omega (arith, zero));
      number = omega (arith, at.invariant.number, length-append at.yielded (c.in-Some.given ∷ []));
      rest = append_assoc at.yielded (c.in-Some.given ∷ []) (into_iter_items c.next.new.self) ∙ ap (λ (xs : List (GivenLog _)). at.yielded ++ xs) (sym steps) ∙ at.invariant.rest;
      left =
          let was = at.invariant.left in
          let gone = c.in-Some.ensures.steps.1 in
          let short = ap length steps in
          omega (arith, was, gone, short);
      showing = at.invariant.showing;
      shown = λ later has s.
          subst (λ (end : Option (ℕ × SumFault)). ShowsGiven g.R.Read.remaining c.args.style.now.form (showing_of at.turn) 0 c.args.logs.items end (g.W.Write.contents (device_of c.args.writer.now)) has)
          (end-passed at.end at.turn.n c.in-Ok.shown.end later ∙ ap (λ (end : Option (ℕ × SumFault)). option_or end later) (sym c.earlier-end.ensures))
          (at.invariant.shown (or_later at.turn.n c.in-Ok.shown.end later) has
          (shown-first g.R.Read.remaining c.args.style.now.form (showing_of at.turn) at.turn.n (at.turn.n + 1) c.in-Some.given (into_iter_items at.given-iterator) (into_iter_items c.next.new.self) log c.in-Ok.shown.end later
          (g.W.Write.contents (device_of at.writer)) (g.W.Write.contents (device_of c.show_one.new.writer)) has steps (omega arith) read ends named s));
    }

pub returns-in-Err-clause-shown : goal.returns-in-Err-clause-shown
returns-in-Err-clause-shown g c =
    let at = c.logs in
    not-shown g.R.Read.remaining c.args.style.now.form (record { how = c.args.how; wanted = c.args.wanted.now; places = c.args.at.now; count = length c.args.logs.items })
    at.yielded (into_iter_items c.next.new.self) c.args.logs.items c.in-Some.given at.turn.n (g.W.Write.contents (device_of c.args.writer.now)) (g.W.Write.contents (device_of c.show_one.new.writer)) c.in-Err.fault
    (ap (λ (xs : List (GivenLog _)). at.yielded ++ xs) (sym c.in-Some.ensures.steps.0) ∙ at.invariant.rest) at.invariant.number c.in-Err.ensures.fault

pub returns-clause-shown : goal.returns-clause-shown
returns-clause-shown g c =
    let at = c.logs in
    let had : Option (List ℕ) = g.W.Write.contents (device_of c.args.writer.now) in
    let has : Option (List ℕ) = g.W.Write.contents (device_of at.writer) in
    let showing : showing_of at.turn ≡ record { how = c.args.how; wanted = c.args.wanted.now; places = c.args.at.now; count = length c.args.logs.items } =
    at.invariant.showing ∙ ap (λ (n : ℕ). record { how = c.args.how; wanted = c.args.wanted.now; places = c.args.at.now; count = n }) (omega (arith, c.len.ensures)) in
    subst (λ (s : Showing). ShowsLogs g.R.Read.remaining c.args.style.now.form s c.args.logs.items had has c.ended.result) showing
    (all-shown g.R.Read.remaining c.args.style.now.form (showing_of at.turn) c.args.logs.items at.end had has c.ended.result c.ended.ensures.end
    (subst (λ (end : Option (ℕ × SumFault)). ShowsGiven g.R.Read.remaining c.args.style.now.form (showing_of at.turn) 0 c.args.logs.items end had has) (none-later at.end)
    (at.invariant.shown None has
    (shown-rest g.R.Read.remaining c.args.style.now.form (showing_of at.turn) at.turn.n (into_iter_items at.given-iterator) has (at.invariant.left ∙ c.in-None.ensures.steps.0)))))
