use Rattle.std.proofs.lemmas.Result.{err_from_is_err_and}
use Rattle.std.specs.Prelude.{option_copied}
use Rattle.blog_event.specs.code.LogView.{log_bytes}
use Rattle.blog_source.specs.code.SourceView.{damaged_of}
use Rattle.blog_list.specs.Lines.{LogList}
use Rattle.blog_list.specs.Shown.{log_list}
use Rattle.blog_list.specs.code.Told.{source_place}
use Rattle.blog_list.specs.code.WriterView.{sheet_of, sorting_of}
use Rattle.blog_list.proofs.InOrder.{held-begun, held-in-turn, held-sorted}
use Rattle.blog_list.proofs.list_writer.ListWriter.put_log.Goals.{in-Place, in-Rows+in_ok-put_lines-in-Rows}
use Rattle.blog_list.proofs.list_writer.ListWriter.put_log.Goals as goal

pub returns-in_err-put_lines-in-Rows-clause-beginning : goal.returns-in_err-put_lines-in-Rows-clause-beginning
returns-in_err-put_lines-in-Rows-clause-beginning g c =
    let p = err_from_is_err_and c.from_residual-in_err-put_lines-in-Rows.result c.from_residual-in_err-put_lines-in-Rows.ensures.1 in
    let l : LogList = log_list (option_copied c.args.name) (sorting_of c.args.self.now) c.args.wanted.now (log_bytes c.args.log.now) (source_place c.args.source.now) (damaged_of c.args.source.now) in
    rw p.1 (held-begun (sheet_of c.args.self.now c.args.text.now.items) l _ _ _ _ _ c.in-Rows.is c.in_ok-whole.ensures.text c.in_err-put_lines-in-Rows.ensures.beginning)

pub returns-clause-text : goal.returns-clause-text
returns-clause-text g c =
    let l : LogList = log_list (option_copied c.args.name) (sorting_of c.args.self.now) c.args.wanted.now (log_bytes c.args.log.now) (source_place c.args.source.now) (damaged_of c.args.source.now) in
    elim c.match-self.branch [
      | in-Place w ↦ rw (w.text-is, w.writer-is) (held-in-turn (sheet_of c.args.self.now c.args.text.now.items) l _ _ _ _ w.in-Place.is c.in_ok-whole.ensures.text)
      | in-Rows+in_ok-put_lines-in-Rows w ↦ rw (w.text-is, w.writer-is) (held-sorted (sheet_of c.args.self.now c.args.text.now.items) l _ _ _ _ _ _ w.in-Rows.is c.in_ok-whole.ensures.text w.in_ok-put_lines-in-Rows.ensures.text)
    ]
