-- An image in front is the next, and whole images stand behind it; with none in front nothing is left.
use Rattle.std.proofs.Common.{◌≡◌, ◌∙◌, [], sym, arith}
use Rattle.blog_row.specs.code.LayoutView.{layout_columns}
use Rattle.blog_row.specs.code.RowsView.{images_left}
use Rattle.blog_row.proofs.RowsCode.{some_columns, one_image}
use Rattle.blog_row.proofs.RowsWalking.{no_image, next_image}
use Rattle.blog_row.proofs.rows.Rows.image.Goals as goal

pub returns-in_err-len-clause-images : goal.returns-in_err-len-clause-images
returns-in_err-len-clause-images c =
    let none : images_left c.args.self.now ≡ [] = no_image (layout_columns c.args.self.now.layout) c.args.self.now.rest.now (sym c.image_len_by.ensures.exact ∙ c.in_err-len.was) c.args.self.now.imaged in
    rw c.from_residual.ensures (none, none)

pub invariant_of-self-2 : goal.invariant_of-self-2
invariant_of-self-2 c =
    let next = next_image (layout_columns c.args.self.now.layout) c.args.self.now.rest.now c.in_ok-len.len (some_columns c.args.self.now.layout) (sym c.image_len_by.ensures.exact ∙ c.in_ok-len.was) c.args.self.now.imaged in
    record { imaged = rw c.split_at.ensures.back next.0; stored = c.args.self.now.stored }

pub returns-clause-images : goal.returns-clause-images
returns-clause-images c =
    let next = next_image (layout_columns c.args.self.now.layout) c.args.self.now.rest.now c.in_ok-len.len (some_columns c.args.self.now.layout) (sym c.image_len_by.ensures.exact ∙ c.in_ok-len.was) c.args.self.now.imaged in
    rw (c.split_at.ensures.front, c.split_at.ensures.back) next.1

pub returns-clause-bytes : goal.returns-clause-bytes
returns-clause-bytes c =
    let one = one_image (layout_columns c.args.self.now.layout) c.args.self.now.rest.now c.in_ok-len.len (some_columns c.args.self.now.layout) (sym c.image_len_by.ensures.exact ∙ c.in_ok-len.was) in
    let behind = c.split_at.ensures.back_len in
    omega (arith, one.positive, one.within, behind)
