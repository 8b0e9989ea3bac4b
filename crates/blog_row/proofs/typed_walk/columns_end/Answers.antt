use Rattle.std.proofs.Common.{◌≡◌, ◌∙◌, ◌+◌, ◌<◌, ◌∷◌, true, false, List, ℕ, None, Some, get_or, drop, sym, ap, arith}
use Rattle.std.specs.List.{list_all}
use Rattle.blog_row.specs.Column.{Layout, columns_of, is_column, own_metadata_len, value_front}
use Rattle.blog_row.specs.Image.{is_marked}
use Rattle.blog_row.specs.code.LayoutReading.{column_here}
use Rattle.blog_row.specs.code.PositionView.{EndsAt, behind_from}
use Rattle.blog_row.proofs.TypeBytes.{split_index}
use Rattle.blog_row.proofs.PositionWalking.{past_null, past_value, bit_clear, bit_set}
use Rattle.blog_row.proofs.typed_walk.columns_end.Goals as goal
use Rattle.blog_row.proofs.typed_walk.columns_end.Goals.{then-bits-k-eq0+in_ok-end, else-bits-k-eq0}

pub returns-in_err-end-clause-none : goal.returns-in_err-end-clause-none
returns-in_err-end-clause-none c =
    let i = c.args.from + c.loop-k.k in
    let columns = columns_of (drop (i + 1) c.args.kinds.now) (drop (own_metadata_len (get_or c.args.kinds.now i 0)) c.loop-k.left.now) in
    let here = column_here (get_or c.args.kinds.now i 0) c.loop-k.left.now in
    let split : columns_of (drop i c.args.kinds.now) c.loop-k.left.now ≡ here ∷ columns = ap (λ (t : List ℕ). columns_of t c.loop-k.left.now) (split_index c.args.kinds.now i (omega (arith, c.loop-k-test.true, c.requires.below))) in
    let there : is_marked c.args.nulls.now i ≡ false = bit_clear c.args.nulls.now c.args.from c.loop-k.k c.requires.whole (omega (arith, c.loop-k-test.true, c.requires.few)) c.if-bits-k-eq0.true in
    let ends : EndsAt (value_front here) c.loop-k.end c.args.bytes.now None = c.in_err-end.ensures in
    rw c.from_residual.ensures (c.loop-k.invariant.1
    ∙ ap (λ (t : Layout). behind_from t c.args.nulls.now i c.loop-k.end c.args.bytes.now) split
    ∙ past_value here columns c.args.nulls.now i c.loop-k.end c.args.bytes.now None there ends)

pub loop-k-preserved : goal.loop-k-preserved
loop-k-preserved c =
    let i = c.args.from + c.loop-k.k in
    let next : i + 1 ≡ c.args.from + (c.loop-k.k + 1) = omega arith in
    let columns = columns_of (drop (i + 1) c.args.kinds.now) c.behind_own-left.result.now in
    let here = column_here (get_or c.args.kinds.now i 0) c.loop-k.left.now in
    let split : columns_of (drop i c.args.kinds.now) c.loop-k.left.now ≡ here ∷ columns = c.behind_own-left.ensures.columns in
    let so_far = c.loop-k.invariant.1 ∙ ap (λ (t : Layout). behind_from t c.args.nulls.now i c.loop-k.end c.args.bytes.now) split in
    let low : c.loop-k.k < 8 = omega (arith, c.loop-k-test.true, c.requires.few) in
    let on : behind_from (here ∷ columns) c.args.nulls.now i c.loop-k.end c.args.bytes.now ≡ behind_from columns c.args.nulls.now (i + 1) c.if-bits-k-eq0.end c.args.bytes.now =
    elim c.if-bits-k-eq0.branch [
      | then-bits-k-eq0+in_ok-end w ↦
          let there : is_marked c.args.nulls.now i ≡ false = bit_clear c.args.nulls.now c.args.from c.loop-k.k c.requires.whole low w.if-bits-k-eq0.true in
          rw w.end-is (past_value here columns c.args.nulls.now i c.loop-k.end c.args.bytes.now (Some _) there w.in_ok-end.ensures)
      | else-bits-k-eq0 w ↦
          let null : is_marked c.args.nulls.now i ≡ true = bit_set c.args.nulls.now c.args.from c.loop-k.k c.requires.whole low w.if-bits-k-eq0.false in
          rw w.end-is (past_null here columns c.args.nulls.now i c.loop-k.end c.args.bytes.now null)
    ] in (
      ap (λ n. list_all is_column (columns_of (drop n c.args.kinds.now) c.behind_own-left.result.now)) (sym next) ∙ c.behind_own-left.ensures.known,
      so_far ∙ on ∙ ap (λ n. behind_from (columns_of (drop n c.args.kinds.now) c.behind_own-left.result.now) c.args.nulls.now n c.if-bits-k-eq0.end c.args.bytes.now) next,
    )
