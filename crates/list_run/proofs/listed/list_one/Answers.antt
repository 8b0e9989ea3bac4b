use Rattle.std.proofs.Common.{◌≡◌}
use Rattle.std.proofs.lemmas.Result.{err_from_is_err_and}
use Rattle.std.specs.Prelude.{option_copied}
use Rattle.blog_list.specs.code.WriterView.{form_of, gtids_of, heading_of, zone_of}
use Rattle.list_run.specs.code.Turns.{listing_of}
use Rattle.list_run.proofs.One.{one-begun, one-listed, one-unopened}
use Rattle.list_run.proofs.listed.list_one.Goals as goal

pub returns-in_err-source-clause-text : goal.returns-in_err-source-clause-text
returns-in_err-source-clause-text g c =
    let p = err_from_is_err_and c.from_residual.result c.from_residual.ensures.1 in
    rw (p.1, p.2) (one-unopened g.row.A.Denot g.R.Read.remaining (form_of c.args.list.now) (zone_of c.args.list.now) (gtids_of c.args.list.now) (heading_of c.args.list.now) (listing_of c.args.turn.now) c.args.turn.now.n c.args.given c.args.totals.now c.args.totals.now _ _ c.in_err-source.ensures.opens)

pub returns-in-Ok-clause-text : goal.returns-in-Ok-clause-text
returns-in-Ok-clause-text g c =
    one-listed g.R.Read.remaining (form_of c.args.list.now) (zone_of c.args.list.now) (gtids_of c.args.list.now) (heading_of c.args.list.now) (listing_of c.args.turn.now) c.args.turn.now.n c.args.given c.in_ok-source.source (option_copied c.name.result) _ _ _ _ _
    c.in_ok-source.ensures.opens c.name.ensures c.in-Ok.ensures.text

pub returns-clause-text : goal.returns-clause-text
returns-clause-text g c =
    one-begun g.R.Read.remaining (form_of c.args.list.now) (zone_of c.args.list.now) (gtids_of c.args.list.now) (heading_of c.args.list.now) (listing_of c.args.turn.now) c.args.turn.now.n c.args.given c.in_ok-source.source (option_copied c.name.result) c.args.totals.now c.list_source.new.totals _ _ c.in-Err.fault
    c.in_ok-source.ensures.opens c.name.ensures c.in-Err.ensures.text
