-- The sum of the first types, with a mark for each that the profile lacks, grows by that of the next one.
use Rattle.std.proofs.Common.{◌≡◌, ◌<◌, ◌+◌, ℕ, List, length, drop, get_or, refl, sym, ap, arith}
use Rattle.blog_row.specs.code.LayoutReading.{marked_metadata_len, marked_total}
use Rattle.blog_row.proofs.TypeBytes.{split_index, total_few, sum_of_known, sum_of_unknown, whole_sum}
use Rattle.blog_row.proofs.layout.metadata_len_of_all.Goals as goal

next : (kinds : List ℕ) (i : ℕ) → i < length kinds → marked_total (drop i kinds) ≡ marked_metadata_len (get_or kinds i 0) + marked_total (drop (i + 1) kinds)
next kinds i h = ap marked_total (split_index kinds i h)

pub overflow_add-total : goal.overflow_add-total
overflow_add-total c = omega (arith, next _ _ c.loop-kind-test.true, c.loop-kind.invariant.sum, c.marked_len-total.ensures, total_few c.args.kinds.now, c.requires)

pub loop-kind-preserved : goal.loop-kind-preserved
loop-kind-preserved c = record {
  sum = omega (arith, next _ _ c.loop-kind-test.true, c.loop-kind.invariant.sum, c.marked_len-total.ensures);
  few = c.if-total-gt-MOST_METADATA.false;
}

pub returns-then-total-gt-MOST_METADATA : goal.returns-then-total-gt-MOST_METADATA
returns-then-total-gt-MOST_METADATA c =
    let many : 8192 < marked_total c.args.kinds.now = omega (arith, next _ _ c.loop-kind-test.true, c.loop-kind.invariant.sum, c.marked_len-total.ensures, c.if-total-gt-MOST_METADATA.true) in
    sym (sum_of_unknown _ _ refl c.requires many)

pub returns : goal.returns
returns c =
    let whole = whole_sum _ _ _ c.loop-kind-test.false c.loop-kind.invariant.sum in
    sym (sum_of_known _ _ whole c.loop-kind.invariant.few)
