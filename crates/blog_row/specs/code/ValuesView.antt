-- What a contract sees of an iterator over the values of an image.
use Rattle.std.specs.Prelude.{ℕ, ◌-◌, List, [], Option, drop, length, option_map, unwrap_or}
use Rattle.std.specs.Borrow.{Bor}
use Rattle.blog_row.specs.declared.values.Values as told
use Rattle.blog_row.specs.Column.{columns_of}
use Rattle.blog_row.specs.Image.{Row, values_front}

-- a value's bytes, None where it is NULL
abbrev pub value_bytes : Option (Bor (List ℕ)) → Option (List ℕ)
value_bytes value = option_map (λ bytes. bytes.now) value

-- the values that are left
abbrev pub values_left : told.Values → Row
values_left v = unwrap_or (option_map (λ r. r.0) (values_front (columns_of (drop v.column v.kinds.now) v.metadata.now) v.nulls.now v.column v.rest.now)) []

-- how many columns are left
abbrev pub columns_left : told.Values → ℕ
columns_left v = length v.kinds.now - v.column
