use Rattle.std.proofs.Common.{◌∙◌, ◌<◌, Some, ap, arith}
use Rattle.blog_row.proofs.StorageWalking.{next_column}
use Rattle.blog_row.proofs.storages.columns_end.Goals as goal

pub loop-k-preserved : goal.loop-k-preserved
loop-k-preserved g c = record {
  near = omega (arith, c.loop-k.invariant.near, c.value_end-end.ensures.near);
  behind = λ columns stored.
      let low : c.loop-k.k < 8 = omega (arith, c.loop-k-test.true, c.requires.few) in
      c.loop-k.invariant.behind columns stored
      ∙ next_column columns c.args.storages.now c.args.nulls.now c.args.bytes.now c.args.from c.loop-k.k c.loop-k.end _ (Some c.value_end-end.result) c.requires.whole low (omega (arith, c.loop-k-test.true, c.requires.below)) stored c.value_end-end.ensures.there (λ null. ap Some (c.value_end-end.ensures.absent null));
}
