use Rattle.std.proofs.Common.{◌≡◌, ◌≤◌, ℕ, ◌+◌, drop, ap, ◌∙◌, arith}
use Rattle.std.proofs.lemmas.List.{take_rest}
use Rattle.byteorder.specs.Endian.{little_number}
use Rattle.blog_row.specs.code.PositionView.{from_position}
use Rattle.blog_row.specs.code.StorageView.{prefix_seen}
use Rattle.blog_row.specs.declared.column.Prefix.{Prefix}
use Rattle.blog_row.specs.declared.column.Prefix.TheVariants.{One, Two, Three, Four}
use Rattle.blog_row.proofs.PositionWalking.{counted_ends}
use Rattle.blog_row.proofs.storages.counted_end.Goals as goal

few_bytes : (prefix : Prefix) → prefix_seen prefix ≤ 4
few_bytes One = omega arith
few_bytes Two = omega arith
few_bytes Three = omega arith
few_bytes Four = omega arith

pub returns-clause-there : goal.returns-clause-there
returns-clause-there c e =
    let p : ℕ = prefix_seen c.args.prefix in
    let len : c.length_at.result ≡ little_number p (drop c.args.at c.args.bytes.now) = c.length_at.ensures ∙ ap (little_number p) (take_rest c.args.bytes.now c.args.at) in
    let end : c.args.at + p + little_number p (drop c.args.at c.args.bytes.now) ≡ c.args.at + c.bytes.result + c.length_at.result = omega (arith, c.bytes.ensures, len) in
    counted_ends p c.args.at c.args.bytes.now (omega (arith, few_bytes c.args.prefix, c.if-bytes-at.false))
    ∙ ap (λ (n : ℕ). from_position n c.args.bytes.now) end
