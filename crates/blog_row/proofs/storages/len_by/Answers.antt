use Rattle.std.proofs.Common.{◌≡◌, ◌∙◌, ◌<◌, length, ap, sym, arith}
use Rattle.blog_row.specs.Checks.{cut}
use Rattle.blog_row.specs.Image.{bitmap_len}
use Rattle.blog_row.proofs.Walking.{nulls_short}
use Rattle.blog_row.proofs.StorageWalking.{nulls_stored}
use Rattle.blog_row.proofs.PositionWalking.{rest_of, image_begins, image_ends, image_cut, image_none}
use Rattle.blog_row.proofs.storages.len_by.Goals as goal

pub returns-in_err-nulls-clause-exact : goal.returns-in_err-nulls-clause-exact
returns-in_err-nulls-clause-exact c columns stored =
    let few : c.div_ceil-count.result ≡ bitmap_len (length columns) = sym (nulls_stored columns c.args.storages.now _ stored c.div_ceil-count.ensures) in
    let short = nulls_short columns c.args.bytes.now (ap (λ n. cut n c.args.bytes.now) (sym few) ∙ sym c.in_err-nulls.ensures) in
    c.from_residual.ensures ∙ sym (image_none columns c.args.bytes.now (ap rest_of short))

pub returns-then-end-bytes-clause-exact : goal.returns-then-end-bytes-clause-exact
returns-then-end-bytes-clause-exact c columns stored =
    let few : c.div_ceil-count.result ≡ bitmap_len (length columns) = sym (nulls_stored columns c.args.storages.now _ stored c.div_ceil-count.ensures) in
    let begins = image_begins columns c.args.bytes.now c.in_ok-nulls.nulls.now c.in_ok-nulls.field-0-1.now c.div_ceil-count.result few (sym c.in_ok-nulls.ensures) in
    sym (image_ends columns c.args.bytes.now c.values_end-end.result (sym begins ∙ c.values_end-end.ensures columns stored) c.if-end-bytes.true)

pub returns-else-end-bytes-clause-exact : goal.returns-else-end-bytes-clause-exact
returns-else-end-bytes-clause-exact c columns stored =
    let few : c.div_ceil-count.result ≡ bitmap_len (length columns) = sym (nulls_stored columns c.args.storages.now _ stored c.div_ceil-count.ensures) in
    let begins = image_begins columns c.args.bytes.now c.in_ok-nulls.nulls.now c.in_ok-nulls.field-0-1.now c.div_ceil-count.result few (sym c.in_ok-nulls.ensures) in
    let past : length c.args.bytes.now < c.values_end-end.result = omega (arith, c.if-end-bytes.false) in
    sym (image_cut columns c.args.bytes.now c.values_end-end.result (sym begins ∙ c.values_end-end.ensures columns stored) past)
