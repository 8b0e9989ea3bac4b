use Rattle.std.proofs.Common.{refl, ap}
use Rattle.std.proofs.lemmas.Result.{err_from_is_err_and}
use Rattle.std.specs.Prelude.{option_copied}
use Rattle.blog_device.specs.Watched.{device_of}
use Rattle.blog_source.specs.Found.{found_of}
use Rattle.blog_source.specs.Handed.{handed_log}
use Rattle.blog_source.specs.code.SourceView.{end_of, log_of}
use Rattle.list_run.specs.Listed.{name_shown}
use Rattle.show_run.specs.Shown.{listing_in, wanted_in}
use Rattle.show_run.specs.code.Turns.{showing_of}
use Rattle.show_run.proofs.Ending.{log-ends}
use Rattle.show_run.proofs.Showing.{log-same}
use Rattle.show_run.proofs.Turning.{not-opened}
use Rattle.show_run.proofs.shown.show_one.Goals as goal

pub returns-in_err-source-clause-fault : goal.returns-in_err-source-clause-fault
returns-in_err-source-clause-fault g c =
    let p = err_from_is_err_and c.from_residual.result c.from_residual.ensures.1 in
    rw (p.1, p.2) (not-opened g.row.A.Denot g.R.Read.remaining c.args.given c.args.turn.now.how _ c.in_err-source.ensures.opens)

pub returns-in-Ok-clause-shown : goal.returns-in-Ok-clause-shown
returns-in-Ok-clause-shown g c =
    let (bytes, (left, reads), opened) = c.in_ok-source.ensures.opens in (
      record { name = c.args.given.name.now; bytes = bytes },
      (refl, (left, reads)),
      log-ends (listing_in (showing_of c.args.turn.now)) c.args.turn.now.n (record { name = c.args.given.name.now; bytes = bytes }) c.in_ok-source.source c.asked-asked.result.wanted c.in-Ok.shown.end opened c.asked-asked.ensures.wanted c.in-Ok.ensures.end,
      (
        c.form_of.result,
        c.form_of.ensures,
        log-same c.form_of.result (option_copied c.name-name.result) (name_shown c.args.turn.now.count c.args.given.name.now) c.asked-asked.result.wanted (wanted_in (showing_of c.args.turn.now) c.args.turn.now.n) c.asked-asked.result.at.now c.args.turn.now.all.at.now
            (log_of c.in_ok-source.source) (handed_log c.args.turn.now.how bytes) (end_of c.in_ok-source.source) (found_of c.args.turn.now.how bytes).end (g.W.Write.contents (device_of c.args.writer.now)) (g.W.Write.contents (device_of c.show_source.new.writer))
            c.name-name.ensures c.asked-asked.ensures.wanted (ap (λ at. at.now) c.asked-asked.ensures.at) opened.log opened.end c.in-Ok.ensures.shown,
      ),
    )
