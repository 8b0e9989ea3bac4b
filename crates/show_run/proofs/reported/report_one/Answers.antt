use Rattle.std.proofs.Common.{ℕ, List, length, refl, ap, ◌∙◌}
use Rattle.blog_report.specs.Sums.{at_most}
use Rattle.blog_report.specs.code.ReportView.{said_of}
use Rattle.blog_request.specs.declared.wanted.Wanted.{Wanted}
use Rattle.blog_source.specs.Handed.{handed_log}
use Rattle.blog_source.specs.code.SourceView.{end_of, log_of}
use Rattle.show_run.specs.Reported.{wanted_units, with_log}
use Rattle.show_run.specs.Shown.{listing_in, wanted_in}
use Rattle.show_run.specs.code.Turns.{showing_of}
use Rattle.show_run.proofs.Ending.{log-ends}
use Rattle.show_run.proofs.reported.report_one.Goals as goal

pub returns-in-Ok : goal.returns-in-Ok
returns-in-Ok g c =
    let (bytes, (left, reads), opened) = c.in_ok-source.ensures.opens in
    let n : ℕ = c.args.turn.now.n in
    let w : Wanted = wanted_in (showing_of c.args.turn.now) n in
    let handed : List ℕ = handed_log c.args.turn.now.how bytes in (
      record { name = c.args.given.name.now; bytes = bytes },
      (refl, (left, reads)),
      log-ends (listing_in (showing_of c.args.turn.now)) n (record { name = c.args.given.name.now; bytes = bytes }) c.in_ok-source.source c.asked-asked.result.wanted c.in-Ok.shown.end opened c.asked-asked.ensures.wanted c.in-Ok.ensures.end,
      c.in-Ok.ensures.units ∙ ap (λ (v : Wanted). at_most (length (wanted_units v (log_of c.in_ok-source.source)))) c.asked-asked.ensures.wanted
          ∙ ap (λ (b : List ℕ). at_most (length (wanted_units w b))) opened.log,
      record {
        is = c.in-Ok.ensures.said.is ∙ ap (λ (v : Wanted). with_log n v (log_of c.in_ok-source.source) (end_of c.in_ok-source.source) (said_of c.args.report.now)) c.asked-asked.ensures.wanted
            ∙ ap (λ (b : List ℕ). with_log n w b (end_of c.in_ok-source.source) (said_of c.args.report.now)) opened.log
            ∙ ap (λ (e : ℕ). with_log n w handed e (said_of c.args.report.now)) opened.end;
        whole = c.in-Ok.ensures.said.whole;
      },
    )
