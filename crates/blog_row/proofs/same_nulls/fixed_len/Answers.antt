use Rattle.std.proofs.Common.{◌<◌, ◌≤◌, ◌∙◌, length, arith}
use Rattle.blog_row.specs.declared.column.Storage.TheVariants as variants
use Rattle.blog_row.proofs.SameNulls.{next_fixed, length_known}
use Rattle.blog_row.proofs.StorageWalking.{all_reached}
use Rattle.blog_row.proofs.same_nulls.fixed_len.Goals as goal

pub loop-i-preserved : goal.loop-i-preserved
loop-i-preserved c = record {
  some = omega (arith, c.loop-i.invariant.some);
  near = omega (arith, c.loop-i.invariant.near, c.if_there.type_inv);
  behind = λ columns bits bytes stored byte.
      c.loop-i.invariant.behind columns bits bytes stored byte
      ∙ next_fixed columns c.args.storages.now bits bytes c.args.nulls c.loop-i.i c.loop-i.len c.in-Fixed.width c.if_there.result (variants.Fixed 0) (omega (arith, c.loop-i-test.true, c.if-columns-gt-MOST_COMPARED.false)) c.loop-i-test.true stored byte c.in-Fixed.is
      (λ there. c.if_there.ensures.there there ∙ c.from.ensures) c.if_there.ensures.absent;
}

pub returns-clause-length : goal.returns-clause-length
returns-clause-length c columns stored =
    let some : 0 < length c.args.storages.now = c.requires.some in
    let all : length c.args.storages.now ≤ c.loop-i.i = c.loop-i-test.false in
    length_known columns c.args.storages.now c.args.nulls c.loop-i.len some c.if-columns-gt-MOST_COMPARED.false stored
    (λ bits bytes byte. c.loop-i.invariant.behind columns bits bytes stored byte ∙ all_reached columns c.args.storages.now bits bytes c.loop-i.i c.loop-i.len all stored)
