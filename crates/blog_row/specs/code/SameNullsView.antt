-- What a contract sees of null bits that images have in common.
use Rattle.std.specs.Prelude.{◌≡◌, ◌<◌, ◌≤◌, ℕ, Bool, true, false, List, length, Some, None, slice_get}
use Rattle.std.specs.List.{list_all}
use Rattle.blog_row.specs.declared.column.Storage as storage
use Rattle.blog_row.specs.declared.column.Storage.TheVariants.{Fixed, Counted}
use Rattle.blog_row.specs.declared.same_nulls.SameNulls as told
use Rattle.blog_row.specs.Column.{Layout}
use Rattle.blog_row.specs.Image.{image_len_of}
use Rattle.blog_row.specs.code.StorageView.{AreStored}

-- stored in so many bytes
abbrev pub is_fixed : storage.Storage → Bool
is_fixed (Fixed width) = true
is_fixed (Counted prefix) = false

-- the null bits are in one byte, and each value has a fixed width
abbrev pub AreFewFixed : List storage.Storage → Type 0
AreFewFixed storages = (0 < length storages) × (length storages ≤ 8) × (list_all is_fixed storages ≡ true)

-- each image that begins with this byte is so long, and none is there where there are fewer bytes
abbrev pub IsLengthWith : Layout → ℕ → ℕ → Type 0
IsLengthWith columns nulls len =
    (bytes : List ℕ) → slice_get bytes 0 ≡ Some nulls → (len ≤ length bytes → image_len_of columns bytes ≡ Some len) × (length bytes < len → image_len_of columns bytes ≡ None)

-- the images of columns that are stored so are so long with these null bits
abbrev pub IsLengthBy : List storage.Storage → told.SameNulls → Type 0
IsLengthBy storages same = (0 < same.len) × ((columns : Layout) → AreStored columns storages → IsLengthWith columns same.nulls same.len)
