use Rattle.std.proofs.Common.{◌≡◌, ◌<◌, ◌∙◌, length, sym, arith}
use Rattle.std.proofs.lemmas.Grind.{common_steps}
use Rattle.blog_row.specs.code.LayoutView.{layout_columns}
use Rattle.blog_row.proofs.RowsCode.{OneImage, some_columns, one_image, count_step, count_stops, count_ends}
use Rattle.blog_row.proofs.image_walks.images_in.Goals as goal

pub returns-in_err-len : goal.returns-in_err-len
returns-in_err-len c =
    let some : 0 < length c.images.rest.now = grind (arith, common_steps) in
    c.from_residual.ensures ∙ sym (count_stops (layout_columns c.args.layout.now) c.images.rest.now c.images.images _ some (sym c.in_err-len.ensures.exact) c.images.invariant.0)

pub returns-then-pays_after : goal.returns-then-pays_after
returns-then-pays_after c =
    let one : OneImage (layout_columns c.args.layout.now) c.images.rest.now c.in_ok-len.len = one_image _ _ _ (some_columns c.args.layout.now) (sym c.in_ok-len.ensures.exact) in
    c.count_stored-then-pays_after.ensures ∙ count_step _ _ _ _ _ _ one c.split_at.ensures.back c.images.invariant.0

pub images-smaller : goal.images-smaller
images-smaller c =
    let one : OneImage (layout_columns c.args.layout.now) c.images.rest.now c.in_ok-len.len = one_image _ _ _ (some_columns c.args.layout.now) (sym c.in_ok-len.ensures.exact) in
    omega (arith, one.positive, one.within, c.split_at.ensures.back_len)

pub images-preserved : goal.images-preserved
images-preserved c =
    let one : OneImage (layout_columns c.args.layout.now) c.images.rest.now c.in_ok-len.len = one_image _ _ _ (some_columns c.args.layout.now) (sym c.in_ok-len.ensures.exact) in
    (count_step _ _ _ _ _ _ one c.split_at.ensures.back c.images.invariant.0, omega (arith, one.positive, one.within, c.split_at.ensures.back_len, c.images.invariant.1))

pub returns : goal.returns
returns c =
    let none : length c.images.rest.now ≡ 0 = grind (arith, common_steps) in
    sym (count_ends (layout_columns c.args.layout.now) c.images.rest.now c.images.images _ none c.images.invariant.0)
