use Rattle.std.proofs.Common.{◌≡◌, ◌∙◌, ◌<◌, ◌≤◌, ◌+◌, length, length-append, ap, sym, arith}
use Rattle.blog_row.specs.Checks.{cut}
use Rattle.blog_row.specs.Column.{columns_of}
use Rattle.blog_row.specs.Image.{bitmap_len}
use Rattle.blog_row.specs.code.ImageView.{AreNull}
use Rattle.blog_row.proofs.Cutting.{cut_found}
use Rattle.blog_row.proofs.Layouts.{length_of_columns}
use Rattle.blog_row.proofs.Walking.{nulls_short, rounded_up}
use Rattle.blog_row.proofs.PositionWalking.{rest_of, past_nulls, image_begins, image_ends, image_cut, image_none}
use Rattle.blog_row.proofs.typed_walk.len_by_types.Goals as goal

pub returns-in_err-nulls : goal.returns-in_err-nulls
returns-in_err-nulls c =
    let few : c.div_ceil-count.result ≡ bitmap_len (length (columns_of c.args.kinds.now c.args.metadata.now)) = c.div_ceil-count.ensures ∙ rounded_up _ ∙ sym (ap bitmap_len (length_of_columns _ _)) in
    let short = nulls_short (columns_of c.args.kinds.now c.args.metadata.now) c.args.bytes.now (ap (λ n. cut n c.args.bytes.now) (sym few) ∙ sym c.in_err-nulls.ensures) in
    c.from_residual.ensures ∙ sym (image_none _ c.args.bytes.now (ap rest_of short))

pub returns-in_default : goal.returns-in_default
returns-in_default c =
    let few : c.div_ceil-count.result ≡ bitmap_len (length (columns_of c.args.kinds.now c.args.metadata.now)) = c.div_ceil-count.ensures ∙ rounded_up _ ∙ sym (ap bitmap_len (length_of_columns _ _)) in
    let begins = image_begins (columns_of c.args.kinds.now c.args.metadata.now) c.args.bytes.now c.in_ok-nulls.nulls.now c.in_ok-nulls.field-0-1.now c.div_ceil-count.result few (sym c.in_ok-nulls.ensures) in
    let columns = columns_of c.args.kinds.now c.args.metadata.now in
    let long : length columns ≡ length c.args.kinds.now = length_of_columns c.args.kinds.now c.args.metadata.now in
    let null : AreNull c.in_ok-nulls.nulls.now 0 (0 + length columns) = λ k low high. c.in_default.ensures.nulls k low (omega (arith, high, long)) in
    let front = cut_found c.div_ceil-count.result c.args.bytes.now c.in_ok-nulls.nulls.now c.in_ok-nulls.field-0-1.now (sym c.in_ok-nulls.ensures) in
    let within : c.div_ceil-count.result ≤ length c.args.bytes.now = omega (arith, front.0, ap length front.1, length-append c.in_ok-nulls.nulls.now c.in_ok-nulls.field-0-1.now) in
    sym (image_ends columns c.args.bytes.now c.div_ceil-count.result (sym begins ∙ past_nulls columns c.in_ok-nulls.nulls.now 0 c.div_ceil-count.result c.args.bytes.now null) within)

pub returns-in_err-end : goal.returns-in_err-end
returns-in_err-end c =
    let few : c.div_ceil-count.result ≡ bitmap_len (length (columns_of c.args.kinds.now c.args.metadata.now)) = c.div_ceil-count.ensures ∙ rounded_up _ ∙ sym (ap bitmap_len (length_of_columns _ _)) in
    let begins = image_begins (columns_of c.args.kinds.now c.args.metadata.now) c.args.bytes.now c.in_ok-nulls.nulls.now c.in_ok-nulls.field-0-1.now c.div_ceil-count.result few (sym c.in_ok-nulls.ensures) in
    c.from_residual-in_err-end.ensures ∙ sym (image_none _ c.args.bytes.now (sym begins ∙ c.in_err-end.ensures.none))

pub returns-then-end-bytes : goal.returns-then-end-bytes
returns-then-end-bytes c =
    let few : c.div_ceil-count.result ≡ bitmap_len (length (columns_of c.args.kinds.now c.args.metadata.now)) = c.div_ceil-count.ensures ∙ rounded_up _ ∙ sym (ap bitmap_len (length_of_columns _ _)) in
    let begins = image_begins (columns_of c.args.kinds.now c.args.metadata.now) c.args.bytes.now c.in_ok-nulls.nulls.now c.in_ok-nulls.field-0-1.now c.div_ceil-count.result few (sym c.in_ok-nulls.ensures) in
    sym (image_ends _ c.args.bytes.now c.in_ok-end.end (sym begins ∙ c.in_ok-end.ensures.some) c.if-end-bytes.true)

pub returns-else-end-bytes : goal.returns-else-end-bytes
returns-else-end-bytes c =
    let few : c.div_ceil-count.result ≡ bitmap_len (length (columns_of c.args.kinds.now c.args.metadata.now)) = c.div_ceil-count.ensures ∙ rounded_up _ ∙ sym (ap bitmap_len (length_of_columns _ _)) in
    let begins = image_begins (columns_of c.args.kinds.now c.args.metadata.now) c.args.bytes.now c.in_ok-nulls.nulls.now c.in_ok-nulls.field-0-1.now c.div_ceil-count.result few (sym c.in_ok-nulls.ensures) in
    let past : length c.args.bytes.now < c.in_ok-end.end = omega (arith, c.if-end-bytes.false) in
    sym (image_cut _ c.args.bytes.now c.in_ok-end.end (sym begins ∙ c.in_ok-end.ensures.some) past)
