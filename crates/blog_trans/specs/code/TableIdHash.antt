-- What the hasher of table ids computes.
use Rattle.std.specs.Prelude.{ℕ, ◌/◌, ◌%◌, List, length, if◌then◌else◌, nat_le, bit_xor}
use Rattle.std.specs.Hash.FoldHasher.{folded_multiply}
use Rattle.byteorder.specs.Endian.{little_number}
use Rattle.blog_trans.specs.code.SeededHash.{beside, factor_of, start_of}
use Rattle.blog_trans.specs.declared.table_ids.TableIdHasher.{TableIdHasher}

-- before anything is written
abbrev pub id_hasher : ℕ → TableIdHasher
id_hasher seed = record { start = start_of seed; factor = factor_of seed; id = 0 }

-- the eight bytes of an id
abbrev pub written : TableIdHasher → List ℕ → TableIdHasher
written h bs = if nat_le 8 (length bs) then (record { start = h.start; factor = h.factor; id = little_number 8 bs }) else h

-- the fold of the id's sixteen, twice, and from there as many steps as its place in it
abbrev pub hash_of : TableIdHasher → ℕ
hash_of h = beside (folded_multiply (folded_multiply (bit_xor h.start (h.id / 16)) h.factor) h.factor) (h.id % 16)
