use Rattle.std.proofs.Common.{List, ℕ, length, ap₂, subst}
use Rattle.std.specs.Prelude.{option_copied}
use Rattle.std.proofs.lemmas.Result.{err_from_is_err_and}
use Rattle.blog_device.specs.Watched.{device_of}
use Rattle.blog_request.specs.declared.wanted.Wanted.{Wanted}
use Rattle.blog_source.specs.code.SourceView.{damaged_of}
use Rattle.blog_list.specs.Lines.{LogList}
use Rattle.blog_list.specs.Shown.{log_list}
use Rattle.blog_list.specs.Texts.{AppendsLogBeginning}
use Rattle.blog_list.specs.code.Told.{source_place}
use Rattle.blog_list.specs.code.Totals.{CountsLog}
use Rattle.blog_list.specs.code.WriterView.{form_of, gtids_of, heading_of, sorting_of, zone_of}
use Rattle.blog_list.proofs.list_writer.ListWriter.write_log.Goals as goal

pub returns-in_err-whole-clause-beginning : goal.returns-in_err-whole-clause-beginning
returns-in_err-whole-clause-beginning g c =
    let p = err_from_is_err_and c.from_residual.result c.from_residual.ensures.1 in
    let same = ap₂ (λ (w : Wanted) (log : List ℕ). log_list (option_copied c.args.name) (sorting_of c.args.self.now) w log (source_place c.args.source.now) (damaged_of c.args.source.now)) c.wanted_inside-inside.ensures c.in-Ok.ensures.bytes in
    rw p.1
    (subst (λ (l : LogList). AppendsLogBeginning (form_of c.args.self.now) (zone_of c.args.self.now) (gtids_of c.args.self.now) (length (heading_of c.args.self.now)) l (g.O.Write.contents (device_of c.args.writer.now)) (g.O.Write.contents (device_of c.write_opened.new.writer)))
    same c.in_err-whole.ensures.beginning)

pub returns-in-Some-clause-counted : goal.returns-in-Some-clause-counted
returns-in-Some-clause-counted g c =
    let same = ap₂ (λ (w : Wanted) (log : List ℕ). log_list (option_copied c.args.name) (sorting_of c.args.self.now) w log (source_place c.args.source.now) (damaged_of c.args.source.now)) c.wanted_inside-inside.ensures c.in-Ok.ensures.bytes in
    subst (λ (l : LogList). CountsLog c.args.totals.now c.write_opened.new.totals l) same c.in_ok-whole.ensures.counted

pub returns-in-None-clause-counted : goal.returns-in-None-clause-counted
returns-in-None-clause-counted g c =
    let same = ap₂ (λ (w : Wanted) (log : List ℕ). log_list (option_copied c.args.name) (sorting_of c.args.self.now) w log (source_place c.args.source.now) (damaged_of c.args.source.now)) c.wanted_inside-inside.ensures c.in-Ok.ensures.bytes in
    subst (λ (l : LogList). CountsLog c.args.totals.now c.write_opened.new.totals l) same c.in_ok-whole.ensures.counted
