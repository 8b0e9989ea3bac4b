use Rattle.std.proofs.Common.{◌≡◌, ◌<◌, ◌∙◌, length, take, sym, arith, None, Some}
use Rattle.std.proofs.lemmas.Grind.{common_steps}
use Rattle.blog_row.specs.Image.{image_len_of}
use Rattle.blog_row.specs.code.LayoutView.{layout_columns}
use Rattle.blog_row.proofs.RowsCode.{OneImage, some_columns, one_image}
use Rattle.blog_row.proofs.Reversing.{written_there, written_more, written_all, written_rest, written_imaged}
use Rattle.blog_row.proofs.image_walks.put_from_last.Goals as goal

pub unreachable-requires : goal.unreachable-requires
unreachable-requires c =
    let some : 0 < length c.images.rest.now = grind (arith, common_steps) in
    let none : image_len_of (layout_columns c.args.layout.now) c.images.rest.now ≡ None = sym c.image_len.ensures.exact ∙ c.in_default.is in
    written_there (layout_columns c.args.layout.now) _ c.images.rest.now c.images.to c.images.invariant some none

pub put_stored-requires-then-pays_after-clause-imaged : goal.put_stored-requires-then-pays_after-clause-imaged
put_stored-requires-then-pays_after-clause-imaged c =
    let len : image_len_of (layout_columns c.args.layout.now) c.images.rest.now ≡ Some c.in-Some.len = sym c.image_len.ensures.exact ∙ c.in-Some.is in
    let one : OneImage (layout_columns c.args.layout.now) c.images.rest.now c.in-Some.len = one_image _ _ _ (some_columns c.args.layout.now) len in
    let image : c.copy_from_slice.new.self ≡ take c.in-Some.len c.images.rest.now = c.copy_from_slice.ensures.after ∙ c.split_at.ensures.front in
    written_imaged _ _ _ _ (written_more (layout_columns c.args.layout.now) _ c.images.rest.now c.split_at.result.1.now c.images.to c.copy_from_slice.new.self c.in-Some.len one image c.split_at.ensures.back c.split_at.ensures.back_len c.images.invariant)

pub returns-then-pays_after : goal.returns-then-pays_after
returns-then-pays_after c =
    let len : image_len_of (layout_columns c.args.layout.now) c.images.rest.now ≡ Some c.in-Some.len = sym c.image_len.ensures.exact ∙ c.in-Some.is in
    let one : OneImage (layout_columns c.args.layout.now) c.images.rest.now c.in-Some.len = one_image _ _ _ (some_columns c.args.layout.now) len in
    let image : c.copy_from_slice.new.self ≡ take c.in-Some.len c.images.rest.now = c.copy_from_slice.ensures.after ∙ c.split_at.ensures.front in
    written_rest _ _ _ _ _ (written_more (layout_columns c.args.layout.now) _ c.images.rest.now c.split_at.result.1.now c.images.to c.copy_from_slice.new.self c.in-Some.len one image c.split_at.ensures.back c.split_at.ensures.back_len c.images.invariant) c.put_stored-then-pays_after.ensures

pub images-smaller : goal.images-smaller
images-smaller c =
    let len : image_len_of (layout_columns c.args.layout.now) c.images.rest.now ≡ Some c.in-Some.len = sym c.image_len.ensures.exact ∙ c.in-Some.is in
    let one : OneImage (layout_columns c.args.layout.now) c.images.rest.now c.in-Some.len = one_image _ _ _ (some_columns c.args.layout.now) len in
    omega (arith, one.positive, one.within, c.split_at.ensures.back_len)

pub images-preserved : goal.images-preserved
images-preserved c =
    let len : image_len_of (layout_columns c.args.layout.now) c.images.rest.now ≡ Some c.in-Some.len = sym c.image_len.ensures.exact ∙ c.in-Some.is in
    let one : OneImage (layout_columns c.args.layout.now) c.images.rest.now c.in-Some.len = one_image _ _ _ (some_columns c.args.layout.now) len in
    let image : c.copy_from_slice.new.self ≡ take c.in-Some.len c.images.rest.now = c.copy_from_slice.ensures.after ∙ c.split_at.ensures.front in
    written_more (layout_columns c.args.layout.now) _ c.images.rest.now c.split_at.result.1.now c.images.to c.copy_from_slice.new.self c.in-Some.len one image c.split_at.ensures.back c.split_at.ensures.back_len c.images.invariant

pub returns : goal.returns
returns c =
    let none : length c.images.rest.now ≡ 0 = grind (arith, common_steps) in
    written_all (layout_columns c.args.layout.now) _ c.images.rest.now c.images.to c.images.invariant none
