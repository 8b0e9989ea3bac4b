-- Steps of reading a layout: what a walk over type bytes and metadata bytes meets at each column, and the parts of a table map.
use Rattle.std.specs.Prelude.{ℕ, ◌+◌, ◌==◌, nat_le, ◌&&◌, if◌then◌else◌, Bool, List, [], ◌∷◌, take, Option, Some, None, is_some, option_and_then, unwrap_or, Result, Ok}
use Rattle.std.specs.List.{list_all}
use Rattle.blog_row.specs.declared.fault.RowFault.{RowFault}
use Rattle.blog_row.specs.Checks.{◌>>=◌, cut}
use Rattle.blog_row.specs.Packed.{packed_front}
use Rattle.blog_row.specs.Column.{Column, Layout, own_metadata_len, metadata_len_of, metadata_total}
use Rattle.blog_row.specs.TableMap.{layout_fields}

-- ---- columns

-- the column of a type and of the metadata that begins here
abbrev pub column_here : ℕ → List ℕ → Column
column_here kind metadata = record { kind = kind; metadata = take (own_metadata_len kind) metadata }

-- the profile has each type
abbrev pub are_known : List ℕ → Bool
are_known kinds = list_all (λ kind. is_some (metadata_len_of kind)) kinds

-- how many bytes of metadata the types have together, where the profile has each of them
abbrev pub total_of : List ℕ → Option ℕ
total_of kinds = if are_known kinds then Some (metadata_total kinds) else None

-- how many bytes of metadata a type has; 16,384 where the profile lacks it
abbrev pub marked_metadata_len : ℕ → ℕ
marked_metadata_len kind = unwrap_or (metadata_len_of kind) 16384

-- the sum of these
abbrev pub marked_total : List ℕ → ℕ
marked_total [] = 0
marked_total (kind ∷ kinds) = marked_metadata_len kind + marked_total kinds

-- ---- parts of a table map

-- so many bytes behind their packed number, where the number passes a test, and the bytes behind them
abbrev pub counted_front : (ℕ → Bool) → List ℕ → Option (List ℕ × List ℕ)
counted_front test bytes = option_and_then (λ n. if test n.0 then cut n.0 n.2 else None) (packed_front bytes)

-- the types behind their count, 1 to 4,096 of them
unfoldable pub types_front : List ℕ → Option (List ℕ × List ℕ)
types_front bytes = counted_front (λ n. nat_le 1 n && nat_le n 4096) bytes

-- so many bytes of metadata behind their length
unfoldable pub metadata_front : ℕ → List ℕ → Option (List ℕ × List ℕ)
metadata_front len bytes = counted_front (λ n. n == len) bytes

-- the columns behind the names
unfoldable pub layout_behind : List ℕ → Result Layout RowFault
layout_behind bytes = layout_fields bytes >>= (λ fields. Ok fields.layout)
