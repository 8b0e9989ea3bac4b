use Rattle.std.proofs.Common.{◌≡◌, ◌<◌, ℕ, ◌^◌, ◌-◌, List, get_or, bit_and, ap, ◌∙◌, arith}
use Rattle.std.proofs.lemmas.Nat.{and_mask}
use Rattle.byteorder.specs.Endian.{little_number}
use Rattle.blog_row.specs.code.StorageView.{prefix_seen}
use Rattle.blog_row.specs.declared.column.Prefix.{Prefix}
use Rattle.blog_row.specs.declared.column.Prefix.TheVariants.{One, Two, Three, Four}
use Rattle.blog_row.proofs.storages.length_at.Goals as goal

-- the lower bytes of a number of four bytes
lower_bytes : (prefix : Prefix) (bytes : List ℕ) → ((i : ℕ) → get_or bytes i 0 < 256)
    → bit_and (little_number 4 bytes) (256 ^ prefix_seen prefix - 1) ≡ little_number (prefix_seen prefix) bytes
lower_bytes One bytes each = and_mask (little_number 4 bytes) 8 ∙ omega (arith, each 0)
lower_bytes Two bytes each = and_mask (little_number 4 bytes) 16 ∙ omega (arith, each 0, each 1)
lower_bytes Three bytes each = and_mask (little_number 4 bytes) 24 ∙ omega (arith, each 0, each 1, each 2)
lower_bytes Four bytes each = and_mask (little_number 4 bytes) 32 ∙ omega (arith, each 0, each 1, each 2, each 3)

pub returns : goal.returns
returns c =
    ap (bit_and c.read_u32.result) c.mask.ensures
    ∙ ap (λ (n : ℕ). bit_and n (256 ^ prefix_seen c.args.prefix - 1)) c.read_u32.ensures
    ∙ lower_bytes c.args.prefix c.args.bytes.now (λ i. omega (arith, c.type_inv.bytes i))
