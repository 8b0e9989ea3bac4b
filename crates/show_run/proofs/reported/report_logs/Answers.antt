use Rattle.std.proofs.Common.{◌≡◌, ◌+◌, ◌++◌, ℕ, List, [], ◌∷◌, length, length-append, append_assoc, Option, None, sym, ap, subst, ◌∙◌, arith}
use Rattle.std.specs.Option.{option_or}
use Rattle.std.specs.Vec.Iter.{into_iter_items}
use Rattle.blog_report.specs.code.ReportView.{said_of}
use Rattle.blog_sum.specs.declared.fault.SumFault.{SumFault}
use Rattle.list_run.specs.Listed.{or_later}
use Rattle.list_run.specs.declared.given.GivenLog.{GivenLog}
use Rattle.show_run.specs.Reported.{IsReportOf}
use Rattle.show_run.specs.Shown.{Showing, listing_in}
use Rattle.show_run.specs.code.Becomes.{Reports}
use Rattle.show_run.specs.code.Turns.{showing_of}
use Rattle.show_run.proofs.Reporting.{all-reported, fits-most, reports-first, reports-rest}
use Rattle.show_run.proofs.Turning.{end-passed, none-later}
use Rattle.show_run.proofs.reported.report_logs.Goals as goal

pub logs-preserved : goal.logs-preserved
logs-preserved g c =
    let at = c.logs in
    let steps : into_iter_items at.given-iterator ≡ c.in-Some.given ∷ into_iter_items c.next.new.self = c.in-Some.ensures.steps.0 in
    let (log, read, ends, counts, becomes) = c.in-Ok.ensures in
    record {
      number = omega (arith, at.invariant.number, length-append at.yielded (c.in-Some.given ∷ []));
      rest = append_assoc at.yielded (c.in-Some.given ∷ []) (into_iter_items c.next.new.self) ∙ ap (λ (xs : List (GivenLog _)). at.yielded ++ xs) (sym steps) ∙ at.invariant.rest;
      left =
          let was = at.invariant.left in
          let gone = c.in-Some.ensures.steps.1 in
          let short = ap length steps in
          omega (arith, was, gone, short);
      count = at.invariant.count;
      showing = at.invariant.showing;
      adds_up = becomes.whole at.invariant.adds_up;
      fits = fits-most c.units_with-units.result (at.units + c.in-Ok.shown.units) c.units_with-units.ensures;
      going = λ later count said s.
          subst (λ (end : Option (ℕ × SumFault)). Reports g.R.Read.remaining (listing_in (showing_of at.turn)) 0 c.args.logs.items end 0 count (said_of c.new-report.result) said)
          (end-passed at.end at.turn.n c.in-Ok.shown.end later ∙ ap (λ (end : Option (ℕ × SumFault)). option_or end later) (sym c.earlier-end.ensures))
          (at.invariant.going (or_later at.turn.n c.in-Ok.shown.end later) count said
          (reports-first g.R.Read.remaining (listing_in (showing_of at.turn)) at.turn.n (at.turn.n + 1) c.in-Some.given (into_iter_items at.given-iterator) (into_iter_items c.next.new.self) log c.in-Ok.shown.end later
          at.units c.in-Ok.shown.units c.units_with-units.result count (said_of at.report) (said_of c.report_one.new.report) said steps (omega arith) read ends counts c.units_with-units.ensures becomes.is s));
    }

pub returns-clause-reported : goal.returns-clause-reported
returns-clause-reported g c =
    let at = c.logs in
    let showing : showing_of at.turn ≡ record { how = c.args.how; wanted = c.args.wanted.now; places = []; count = length c.args.logs.items } =
    at.invariant.showing ∙ ap (λ (n : ℕ). record { how = c.args.how; wanted = c.args.wanted.now; places = []; count = n }) (omega (arith, c.len.ensures)) in
    subst (λ (s : Showing). IsReportOf g.R.Read.remaining (listing_in s) c.args.logs.items at.end at.units (said_of at.report)) showing
    (all-reported g.R.Read.remaining (listing_in (showing_of at.turn)) c.args.logs.items at.end at.units (said_of at.report) (said_of c.new-report.result) c.new-report.ensures.said
    (subst (λ (end : Option (ℕ × SumFault)). Reports g.R.Read.remaining (listing_in (showing_of at.turn)) 0 c.args.logs.items end 0 at.units (said_of c.new-report.result) (said_of at.report)) (none-later at.end)
    (at.invariant.going None at.units (said_of at.report)
    (reports-rest g.R.Read.remaining (listing_in (showing_of at.turn)) at.turn.n (into_iter_items at.given-iterator) at.units (said_of at.report) (at.invariant.left ∙ c.in-None.ensures.steps.0) at.invariant.fits))))
