use Rattle.std.proofs.Common.{◌≡◌, ℕ, ◌-◌, true, List, length, take, take_at, refl, ap₂, ◌∙◌, arith}
use Rattle.std.specs.List.{concat}
use Rattle.blog_row.specs.declared.order.Order.TheVariants.{Forward}
use Rattle.blog_row.specs.code.RowsEventView.{rows_content, written_front}
use Rattle.blog_row.proofs.WrittenBody.{body-parts, room-parts}
use Rattle.blog_left_out.proofs.kept_rows.put_front.Goals as goal

pub write_whole-requires : goal.write_whole-requires
write_whole-requires g c = omega (arith, c.in_ok-resize.ensures.len, c.body_len.ensures.len Forward true)

pub overflow_sub-len : goal.overflow_sub-len
overflow_sub-len g c =
    omega (arith, c.len.ensures, c.write_whole.ensures.len, c.in_ok-resize.ensures.len, c.body_len.ensures.len Forward true, room-parts Forward true (rows_content c.args.rows.now), c.rows_len.ensures)

pub returns : goal.returns
returns g c =
    let content = rows_content c.args.rows.now in
    let front = written_front true content in
    let n : c.len.result - c.rows_len.result ≡ length front =
    omega (arith, c.len.ensures, c.write_whole.ensures.len, c.in_ok-resize.ensures.len, c.body_len.ensures.len Forward true, room-parts Forward true content, c.rows_len.ensures) in
    c.truncate.ensures.items
    ∙ ap₂ (λ (n : ℕ) (bytes : List ℕ). take n bytes) n (c.write_whole.ensures.items ∙ body-parts true content)
    ∙ take_at front (concat content.images) (length front) refl
