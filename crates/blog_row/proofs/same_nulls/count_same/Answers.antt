use Rattle.std.proofs.Common.{◌<◌, length, arith}
use Rattle.blog_row.proofs.RowsCode.{OneImage, one_image, count_step}
use Rattle.blog_row.proofs.StorageWalking.{as_many_stored}
use Rattle.blog_row.proofs.same_nulls.count_same.Goals as goal

pub returns-in_default-next_same-2-clause-images : goal.returns-in_default-next_same-2-clause-images
returns-in_default-next_same-2-clause-images c columns stored =
    let some : 0 < length columns = omega (arith, as_many_stored columns c.args.storages.now stored, c.requires.some) in
    let one : OneImage columns c.images.rest.now c.in-Some-next_same.one.len = one_image _ _ _ some (c.in-Some-next_same.ensures.exact columns stored) in
    count_step _ _ _ _ _ _ one c.split_at.ensures.back (c.images.invariant.so_far columns stored)

pub images-preserved : goal.images-preserved
images-preserved c = record {
  known_first = c.in-Some-next_same.ensures.length;
  known_second = c.in-Some-next_same-2.ensures.length;
  so_far = λ columns stored.
      let some : 0 < length columns = omega (arith, as_many_stored columns c.args.storages.now stored, c.requires.some) in
      let one : OneImage columns c.images.rest.now c.in-Some-next_same.one.len = one_image _ _ _ some (c.in-Some-next_same.ensures.exact columns stored) in
      let two : OneImage columns c.split_at.result.1.now c.in-Some-next_same-2.two.len = one_image _ _ _ some (c.in-Some-next_same-2.ensures.exact columns stored) in
      count_step _ _ _ _ _ _ two c.split_at-in-Some-next_same.ensures.back (count_step _ _ _ _ _ _ one c.split_at.ensures.back (c.images.invariant.so_far columns stored));
  few = omega (arith, c.in-Some-next_same.ensures.length.0, c.in-Some-next_same.ensures.within, c.split_at.ensures.back_len, c.in-Some-next_same-2.ensures.length.0, c.in-Some-next_same-2.ensures.within, c.split_at-in-Some-next_same.ensures.back_len, c.images.invariant.few);
}
