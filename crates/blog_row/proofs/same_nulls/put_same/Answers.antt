use Rattle.std.proofs.Common.{◌<◌, length, arith}
use Rattle.blog_row.proofs.StorageWalking.{as_many_stored}
use Rattle.blog_row.proofs.same_nulls.put_same.Goals as goal

pub images-preserved : goal.images-preserved
images-preserved c = record {
  known_first = c.in-Some-next_same.ensures.length;
  known_second = c.in-Some-next_same-2.ensures.length;
  short = omega (arith, c.put_image-rest.ensures.left, c.put_image-rest-in-Some-next_same.ensures.left, c.images.invariant.short);
  so_far = λ columns all stored begun.
      let some : 0 < length columns = omega (arith, as_many_stored columns c.args.storages.now stored, c.requires.some) in
      c.put_image-rest-in-Some-next_same.ensures.written columns all some (c.in-Some-next_same-2.ensures.exact columns stored)
      (c.put_image-rest.ensures.written columns all some (c.in-Some-next_same.ensures.exact columns stored) (c.images.invariant.so_far columns all stored begun));
}
