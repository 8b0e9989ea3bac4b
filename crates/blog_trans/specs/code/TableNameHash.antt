-- What the hasher of table names computes.
use Rattle.std.specs.Prelude.{ℕ, ◌+◌, ◌-◌, ◌*◌, ◌/◌, ◌%◌, ◌^◌, List, [], ◌∷◌, length, take, if◌then◌else◌, ◌==◌, slice_index, bit_xor}
use Rattle.std.specs.Hash.FoldHasher.{folded_multiply}
use Rattle.blog_trans.specs.code.SeededHash.{beside, factor_of, folded, start_of}
use Rattle.blog_trans.specs.declared.table_name.TableName.{TableName}
use Rattle.blog_trans.specs.declared.table_name.TableNameHasher.{TableNameHasher}

-- what is written of a name: the schema's, and the table's
abbrev pub parts : TableName → List (List ℕ)
parts name = name.schema.now ∷ name.table.now ∷ []

-- before anything is written
abbrev pub name_hasher : ℕ → TableNameHasher
name_hasher seed = record { factor = factor_of seed; state = start_of seed; end = 0 }

-- the end of the name before is folded by itself; then the name is folded but for its last byte, and its length and that byte are
-- its end
abbrev pub written : TableNameHasher → List ℕ → TableNameHasher
written h bs =
    let front = length bs - 1 in
    let state = (if h.end == 0 then h.state else folded_multiply (bit_xor h.state h.end) h.factor) in
    if length bs == 0 then h
    else (record { factor = h.factor; state = folded h.factor state (take front bs); end = ((length bs * 256) % 2 ^ 64 + slice_index bs front) % 2 ^ 64 })

-- the fold with the end but for the lower half of its last byte, and from there as many steps as that half says
abbrev pub hash_of : TableNameHasher → ℕ
hash_of h = beside (folded_multiply (bit_xor h.state (h.end / 16)) h.factor) (h.end % 16)
