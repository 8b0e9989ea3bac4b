use Rattle.std.proofs.Common.{◌≡◌, ◌∙◌, ◌≤◌, ◌+◌, ◌-◌, length, drop, arith}
use Rattle.blog_row.specs.code.PositionView.{behind_from}
use Rattle.blog_row.proofs.PositionWalking.{past_eight_nulls, behind_past}
use Rattle.blog_row.proofs.StorageWalking.{stored_behind, next_columns, all_reached}
use Rattle.blog_row.proofs.storages.values_end_as.Goals as goal
use Rattle.blog_row.proofs.storages.values_end_as.Goals.{then-nulls-from+else-bytes-end, else-nulls-from}

pub columns-preserved : goal.columns-preserved
columns-preserved g c = record {
  below = omega (arith, c.columns-test.true);
  whole = omega (arith, c.columns.invariant.whole);
  near = elim c.if-nulls-from.branch [
    | then-nulls-from+else-bytes-end w ↦ rw w.end-is (omega (arith, c.columns.invariant.near, w.columns_end-end.ensures.near))
    | else-nulls-from w ↦ rw w.end-is (omega (arith, c.columns.invariant.near))
  ];
  behind = λ columns stored.
      let left = drop c.columns.from columns in
      let next : behind_from left c.args.nulls.now c.columns.from c.columns.end c.args.bytes.now ≡ behind_from (drop 8 left) c.args.nulls.now (c.columns.from + 8) c.if-nulls-from.end c.args.bytes.now =
      elim c.if-nulls-from.branch [
        | then-nulls-from+else-bytes-end w ↦ rw w.end-is (w.columns_end-end.ensures.behind left (stored_behind c.columns.from columns c.args.storages.now stored))
        | else-nulls-from w ↦ rw w.end-is (past_eight_nulls left c.args.nulls.now c.columns.from c.columns.end c.args.bytes.now c.columns.invariant.whole w.if-nulls-from.false)
      ] in
      c.columns.invariant.behind columns stored ∙ next ∙ next_columns columns c.args.nulls.now c.args.bytes.now c.columns.from 8 c.if-nulls-from.end;
}

pub returns-then-bytes-end : goal.returns-then-bytes-end
returns-then-bytes-end g c columns stored =
    let left = drop c.columns.from columns in
    c.columns.invariant.behind columns stored
    ∙ c.columns_end-end.ensures.behind left (stored_behind c.columns.from columns c.args.storages.now stored)
    ∙ behind_past (drop 8 left) c.args.nulls.now (c.columns.from + 8) c.columns_end-end.result c.args.bytes.now c.if-bytes-end.true

pub returns-then-from-storages : goal.returns-then-from-storages
returns-then-from-storages g c columns stored =
    let count = length c.args.storages.now - c.columns.from in
    let all : length c.args.storages.now ≤ c.columns.from + count = omega (arith, c.columns.invariant.below) in
    let end = c.columns_end-end-then-from-storages.result in
    c.columns.invariant.behind columns stored
    ∙ c.columns_end-end-then-from-storages.ensures.behind _ (stored_behind c.columns.from columns c.args.storages.now stored)
    ∙ next_columns columns c.args.nulls.now c.args.bytes.now c.columns.from count end
    ∙ all_reached columns c.args.storages.now c.args.nulls.now c.args.bytes.now (c.columns.from + count) end all stored

pub returns-else-from-storages : goal.returns-else-from-storages
returns-else-from-storages g c columns stored =
    let all : length c.args.storages.now ≤ c.columns.from = omega (arith, c.if-from-storages.false) in
    c.columns.invariant.behind columns stored ∙ all_reached columns c.args.storages.now c.args.nulls.now c.args.bytes.now c.columns.from c.columns.end all stored
