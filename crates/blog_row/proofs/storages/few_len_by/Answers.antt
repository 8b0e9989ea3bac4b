use Rattle.std.proofs.Common.{◌≡◌, ◌∙◌, ◌<◌, ◌+◌, length, drop, ap, sym, arith}
use Rattle.blog_row.specs.Checks.{cut}
use Rattle.blog_row.specs.Image.{bitmap_len}
use Rattle.blog_row.specs.code.PositionView.{behind_from, from_position}
use Rattle.blog_row.proofs.Walking.{nulls_short}
use Rattle.blog_row.proofs.StorageWalking.{as_many_stored, all_reached}
use Rattle.blog_row.proofs.PositionWalking.{rest_of, image_begins, image_ends, image_cut, image_none}
use Rattle.blog_row.proofs.storages.few_len_by.Goals as goal

pub returns-in_err-nulls-clause-exact : goal.returns-in_err-nulls-clause-exact
returns-in_err-nulls-clause-exact c columns stored =
    let one : 1 ≡ bitmap_len (length columns) = omega (arith, as_many_stored columns c.args.storages.now stored, c.requires.some, c.requires.few) in
    let short = nulls_short columns c.args.bytes.now (ap (λ n. cut n c.args.bytes.now) (sym one) ∙ sym c.in_err-nulls.ensures) in
    c.from_residual.ensures ∙ sym (image_none columns c.args.bytes.now (ap rest_of short))

pub returns-then-end-bytes-clause-exact : goal.returns-then-end-bytes-clause-exact
returns-then-end-bytes-clause-exact c columns stored =
    let one : 1 ≡ bitmap_len (length columns) = omega (arith, as_many_stored columns c.args.storages.now stored, c.requires.some, c.requires.few) in
    let begins = image_begins columns c.args.bytes.now c.in_ok-nulls.nulls.now c.in_ok-nulls.field-0-1.now 1 one (sym c.in_ok-nulls.ensures) in
    let from : 0 + length c.args.storages.now ≡ length c.args.storages.now = omega arith in
    let ends : behind_from columns c.in_ok-nulls.nulls.now 0 1 c.args.bytes.now ≡ from_position c.columns_end-end.result c.args.bytes.now = c.columns_end-end.ensures.behind columns stored ∙ ap (λ i. behind_from (drop (length c.args.storages.now) columns) c.in_ok-nulls.nulls.now i c.columns_end-end.result c.args.bytes.now) from ∙ all_reached columns c.args.storages.now c.in_ok-nulls.nulls.now c.args.bytes.now (length c.args.storages.now) c.columns_end-end.result (omega arith) stored in
    sym (image_ends columns c.args.bytes.now c.columns_end-end.result (sym begins ∙ ends) c.if-end-bytes.true)

pub returns-else-end-bytes-clause-exact : goal.returns-else-end-bytes-clause-exact
returns-else-end-bytes-clause-exact c columns stored =
    let one : 1 ≡ bitmap_len (length columns) = omega (arith, as_many_stored columns c.args.storages.now stored, c.requires.some, c.requires.few) in
    let begins = image_begins columns c.args.bytes.now c.in_ok-nulls.nulls.now c.in_ok-nulls.field-0-1.now 1 one (sym c.in_ok-nulls.ensures) in
    let from : 0 + length c.args.storages.now ≡ length c.args.storages.now = omega arith in
    let ends : behind_from columns c.in_ok-nulls.nulls.now 0 1 c.args.bytes.now ≡ from_position c.columns_end-end.result c.args.bytes.now = c.columns_end-end.ensures.behind columns stored ∙ ap (λ i. behind_from (drop (length c.args.storages.now) columns) c.in_ok-nulls.nulls.now i c.columns_end-end.result c.args.bytes.now) from ∙ all_reached columns c.args.storages.now c.in_ok-nulls.nulls.now c.args.bytes.now (length c.args.storages.now) c.columns_end-end.result (omega arith) stored in
    let past : length c.args.bytes.now < c.columns_end-end.result = omega (arith, c.if-end-bytes.false) in
    sym (image_cut columns c.args.bytes.now c.columns_end-end.result (sym begins ∙ ends) past)
