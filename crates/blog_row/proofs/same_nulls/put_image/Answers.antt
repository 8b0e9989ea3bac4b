use Rattle.std.proofs.Common.{◌≡◌, ◌∙◌, take}
use Rattle.blog_row.proofs.Reversing.{written_more}
use Rattle.blog_row.proofs.RowsCode.{OneImage, one_image}
use Rattle.blog_row.proofs.same_nulls.put_image.Goals as goal

pub returns-clause-written : goal.returns-clause-written
returns-clause-written c columns all some len begun =
    let one : OneImage columns c.args.rest.now c.args.len = one_image _ _ _ some len in
    let image : c.copy_from_slice.new.self ≡ take c.args.len c.args.rest.now = c.copy_from_slice.ensures.after ∙ c.split_at.ensures.front in
    written_more columns all c.args.rest.now c.split_at.result.1.now c.args.to.now c.copy_from_slice.new.self c.args.len one image c.split_at.ensures.back c.split_at.ensures.back_len begun
