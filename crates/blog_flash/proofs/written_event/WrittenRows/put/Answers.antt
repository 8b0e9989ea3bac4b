-- The event has room for the body that is written into it.
use Rattle.std.proofs.Common.{◌≡◌, ℕ, ◌+◌, length, replicate, sym, ap, ◌∙◌, arith}
use Rattle.std.proofs.lemmas.List.{length-replicate}
use Rattle.blog_event.specs.Event.{Event, event_size}
use Rattle.blog_row.specs.RowsKind.{number_of_kind}
use Rattle.blog_row.specs.code.RowsEventView.{rows_content}
use Rattle.blog_row.specs.RowsWriting.{kind_in}
use Rattle.blog_flash.specs.Texts.{rows_event}
use Rattle.blog_flash.specs.code.WrittenView.{rows_told}
use Rattle.blog_flash.proofs.RowsText.{body-written, content-kind}
use Rattle.blog_flash.proofs.written_event.WrittenRows.put.Goals as goal

pub returns-clause-items : goal.returns-clause-items
returns-clause-items g c =
    let own = c.args.self.now in
    let content = rows_content own.rows in
    let pos = c.args.from + c.args.out.now.len in
    let e : Event = rows_event own.last (rows_told own) in
    let kind = c.number.ensures ∙ ap number_of_kind (c.kind-2.ensures ∙ ap (kind_in own.order) c.kind.ensures ∙ sym (content-kind own.order content)) in
    let size = length-replicate c.body_len.result 0 ∙ c.body_len.ensures.len own.order own.last in
    let at : c.unwrap-body.result ≡ length c.args.out.now.items + 19 = omega (arith, rw c.unwrap-body.ensures at c.open_event_from.ensures.body, c.args.out.now.ok.0) in
    c.put_body_at.ensures.items
    ∙ body-written c.args.out.now.items c.open_event_from.new.out.items (replicate c.body_len.result 0) pos c.unwrap-body.result (record own.event.header { kind = c.number.result }) e at
    (rw c.unwrap-body.ensures at c.open_event_from.ensures.ok) size (ap (λ (k : ℕ). record e { kind = k; log_pos = pos + event_size e }) kind)
