use Rattle.std.proofs.Common.{◌≡◌, ℕ, ◌*◌, ◌/◌, ◌%◌, get_or, ap, ◌∙◌, arith}
use Rattle.blog_row.proofs.Walking.{eight_null}
use Rattle.blog_row.proofs.rows_parts.is_full.Goals as goal

pub loop-byte-preserved : goal.loop-byte-preserved
loop-byte-preserved c =
    let n = c.loop-byte.byte-index in
    let start : 8 * n % 8 ≡ 0 = omega arith in
    let here : 8 * n / 8 ≡ n = omega arith in
    let full = ap (λ (k : ℕ). get_or c.args.bitmap.now k 0) here ∙ c.if-byte.false in
    let more = eight_null c.args.bitmap.now 0 (8 * n) c.loop-byte.invariant start full in
    λ i least below. more i least (omega arith)
