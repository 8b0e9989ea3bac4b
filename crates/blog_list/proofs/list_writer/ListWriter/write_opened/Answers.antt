use Rattle.std.proofs.lemmas.Result.{err_from_is_err_and}
use Rattle.std.specs.Prelude.{option_copied}
use Rattle.blog_event.specs.code.LogView.{log_bytes}
use Rattle.blog_source.specs.code.SourceView.{damaged_of}
use Rattle.blog_list.specs.Lines.{LogList}
use Rattle.blog_list.specs.Shown.{log_list}
use Rattle.blog_list.specs.code.Told.{source_place}
use Rattle.blog_list.specs.code.WriterView.{sorting_of}
use Rattle.blog_list.proofs.Whole.{log-begun, log-broken, log-whole}
use Rattle.blog_list.proofs.list_writer.ListWriter.write_opened.Goals as goal

pub returns-in_err-whole-clause-beginning : goal.returns-in_err-whole-clause-beginning
returns-in_err-whole-clause-beginning g c =
    let p = err_from_is_err_and c.from_residual.result c.from_residual.ensures.1 in
    let l : LogList = log_list (option_copied c.args.name) (sorting_of c.args.self.now) c.args.wanted.now (log_bytes c.args.log.now) (source_place c.args.source.now) (damaged_of c.args.source.now) in
    rw p.1 (log-begun _ _ _ _ l _ _ _ c.new-text.ensures.items c.in_err-whole.ensures.beginning)

pub returns-in_err-put-clause-beginning : goal.returns-in_err-put-clause-beginning
returns-in_err-put-clause-beginning g c =
    let p = err_from_is_err_and c.from_residual-in_err-put.result c.from_residual-in_err-put.ensures.1 in
    let l : LogList = log_list (option_copied c.args.name) (sorting_of c.args.self.now) c.args.wanted.now (log_bytes c.args.log.now) (source_place c.args.source.now) (damaged_of c.args.source.now) in
    rw p.1 (log-broken _ _ _ _ l _ _ _ _ _ _ c.new-text.ensures.items c.deref.ensures.value c.in_ok-whole.ensures.text c.in_err-put.ensures.beginning)

pub returns-clause-text : goal.returns-clause-text
returns-clause-text g c =
    let l : LogList = log_list (option_copied c.args.name) (sorting_of c.args.self.now) c.args.wanted.now (log_bytes c.args.log.now) (source_place c.args.source.now) (damaged_of c.args.source.now) in
    log-whole _ _ _ _ l _ _ _ _ _ _ c.new-text.ensures.items c.deref.ensures.value c.in_ok-whole.ensures.text c.in_ok-put.ensures.written
