use Rattle.std.proofs.Common.{◌≡◌, ◌<◌, length, sym, subst, ap, ◌∙◌, arith}
use Rattle.std.specs.Prelude.{IfOk}
use Rattle.std.proofs.lemmas.Result.{err_from_is_err_and}
use Rattle.blog_event.specs.Event.{event_of}
use Rattle.blog_event.specs.File.{Placed}
use Rattle.blog_row.specs.code.LayoutView.{layout_columns}
use Rattle.blog_row.specs.RowsEvent.{IsRowsBody}
use Rattle.blog_row.specs.code.RowsEventView.{counted_seen, rows_body}
use Rattle.blog_row.proofs.RowsCode.{some_columns}
use Rattle.blog_trans.proofs.CheckingRows.{images-fit, rows-unselected, rows-kept, rows-refused}
use Rattle.blog_trans.proofs.checker.kept_rows.Goals as goal

pub returns-in_default-clause-read : goal.returns-in_default-clause-read
returns-in_default-clause-read c = λ tables sel statement m numbered held. rows-unselected tables sel statement _ c.args.kind c.args.map.now m held c.in_default.is

pub returns-in_err-images-clause-read : goal.returns-in_err-images-clause-read
returns-in_err-images-clause-read c = λ tables sel statement m numbered held.
    let p : Placed = record { pos = c.args.event.now.pos; event = event_of c.args.event.now } in
    let exit = err_from_is_err_and c.from_residual.result c.from_residual.ensures.1 in
    rw (exit.1, exit.2) (rows-refused sel statement p c.args.kind c.args.map.now m c.in-Some.table c.read_counted-counted.result c.in_err-images.field-0.0 held c.in-Some.is c.read_counted-counted.ensures.exact c.in_err-images.ensures)

pub returns-clause-read : goal.returns-clause-read
returns-clause-read c = λ tables sel statement m numbered held.
    let p : Placed = record { pos = c.args.event.now.pos; event = event_of c.args.event.now } in
    rows-kept tables sel statement p c.args.kind c.args.map.now m c.in-Some.table (rows_body c.in_ok-images.field-0-0) c.in_ok-images.images c.requires numbered held c.in-Some.is
    (sym c.read_counted-counted.ensures.exact ∙ ap counted_seen c.in_ok-images.ensures) (subst (λ r. IfOk r (λ read. read.1 ≡ length (rows_body read.0).images)) c.in_ok-images.ensures c.read_counted-counted.ensures.counted)

pub returns-clause-images : goal.returns-clause-images
returns-clause-images c =
    let some : 0 < length (layout_columns c.in-Some.table.layout) = some_columns c.in-Some.table.layout in
    let layout = layout_columns c.in-Some.table.layout in
    let body = c.args.event.now.body.now in
    let fit = images-fit c.args.kind layout body (rows_body c.in_ok-images.field-0-0) some
    (subst (λ r. IfOk r (λ read. IsRowsBody c.args.kind layout body (rows_body read.0))) c.in_ok-images.ensures c.read_counted-counted.ensures.found) in
    let counted = subst (λ r. IfOk r (λ read. read.1 ≡ length (rows_body read.0).images)) c.in_ok-images.ensures c.read_counted-counted.ensures.counted in
    omega (arith, fit, counted)
