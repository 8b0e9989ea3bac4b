-- The fields that are written fit in what was read.
use Rattle.std.proofs.Common.{◌≡◌, List, length, sym, ap, ◌∙◌, arith, ℕ}
use Rattle.blog_row.specs.code.LayoutView.{layout_columns}
use Rattle.blog_row.specs.code.RowsEventView.{rows_content}
use Rattle.blog_row.specs.RowsWriting.{no_extra}
use Rattle.blog_row.specs.declared.kind.RowsKind.{RowsKind}
use Rattle.blog_row.proofs.RowsCode.{two_lengths, images_are_joined}
use Rattle.blog_row.proofs.WrittenBody.{body-len}
use Rattle.blog_row.proofs.rows_event.RowsEvent.body_len.Goals as goal
use Rattle.blog_row.proofs.rows_event.RowsEvent.body_len.Goals.{After-extra_len}

-- how long the parts are
parts : (c : After-extra_len) → (c.extra_len.result ≡ length (no_extra c.args.self.now.kind.version)) × (length c.bitmaps.result.0.now ≡ length c.args.self.now.first.now) × (length c.bitmaps.result.1.now ≡ length c.args.self.now.second.now)
parts c = (
  c.extra_len.ensures ∙ ap (λ (kind : RowsKind). length (no_extra kind.version)) c.kind.ensures,
  ap (λ (b : List ℕ × List ℕ). length b.0) (c.bitmaps.ensures.two ∙ sym c.args.self.now.two),
  ap (λ (b : List ℕ × List ℕ). length b.1) (c.bitmaps.ensures.two ∙ sym c.args.self.now.two),
)

pub overflow_add-result-3 : goal.overflow_add-result-3
overflow_add-result-3 c =
    let r = c.args.self.now in
    let images = ap length (images_are_joined (layout_columns r.layout) r.images.now r.imaged) in
    omega (arith, parts (goal.at.overflow_add-result-3 c).After-extra_len, ap length c.count.ensures, c.rows_len.ensures, images, r.extra_long, r.fits)

pub returns-clause-len : goal.returns-clause-len
returns-clause-len c order last =
    let r = c.args.self.now in
    let bitmaps = two_lengths r.kind.action r.first.now r.second.now r.two in
    omega (arith, parts (goal.at.returns-clause-len c).After-extra_len, ap length c.count.ensures, c.rows_len.ensures, bitmaps, r.id_len, body-len order last (rows_content r))
