-- What a contract sees of an iterator over the values of an image by how the columns are stored.
use Rattle.std.specs.Prelude.{ℕ, ◌-◌, [], drop, length, option_map, unwrap_or}
use Rattle.blog_row.specs.declared.stored_values.StoredValues as told
use Rattle.blog_row.specs.Image.{Row, values_front}
use Rattle.blog_row.specs.code.StoredLayoutView.{stored_columns}

-- the values that are left
abbrev pub stored_values_left : told.StoredValues → Row
stored_values_left v = unwrap_or (option_map (λ r. r.0) (values_front (drop v.column (stored_columns v.layout.now)) v.nulls.now v.column v.rest.now)) []

-- how many columns are left
abbrev pub stored_columns_left : told.StoredValues → ℕ
stored_columns_left v = length (stored_columns v.layout.now) - v.column
