use Rattle.std.proofs.Common.{◌≡◌}
use Rattle.std.proofs.lemmas.Result.{err_from_is_err_and}
use Rattle.std.specs.Prelude.{option_copied}
use Rattle.blog_device.specs.Watched.{device_of}
use Rattle.blog_list.specs.code.WriterView.{form_of, gtids_of, heading_of, sorting_of, zone_of}
use Rattle.list_run.specs.code.Turns.{listing_of}
use Rattle.list_run.proofs.One.{source-given, source-unlisted}
use Rattle.list_run.proofs.listed.list_source.Goals as goal

pub returns-in_err-put_above-clause-text : goal.returns-in_err-put_above-clause-text
returns-in_err-put_above-clause-text g c =
    let p = err_from_is_err_and c.from_residual.result c.from_residual.ensures.1 in
    rw p.1 (source-unlisted (form_of c.args.list.now) (zone_of c.args.list.now) (gtids_of c.args.list.now) (heading_of c.args.list.now) c.args.source.now (option_copied c.args.name) (listing_of c.args.turn.now) c.args.turn.now.n c.args.totals.now c.args.totals.now
    (g.W.Write.contents (device_of c.args.writer.now)) (g.W.Write.contents (device_of c.put_above.new.writer)) c.in_err-put_above.field-0.0 c.in_err-put_above.ensures.beginning)

pub returns-clause-text : goal.returns-clause-text
returns-clause-text g c =
    source-given (form_of c.args.list.now) (zone_of c.args.list.now) (gtids_of c.args.list.now) (sorting_of c.args.list.now) (heading_of c.args.list.now) c.args.source.now (option_copied c.args.name) (listing_of c.args.turn.now) c.args.turn.now.n c.wanted.result _ _ _ _ _ c.write_log.result
    c.requires.sorting c.wanted.ensures c.in_ok-put_above.ensures.text c.write_log.ensures.text c.write_log.ensures.beginning c.write_log.ensures.counted c.write_log.ensures.end
