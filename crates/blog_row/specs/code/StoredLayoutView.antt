-- What a contract sees of a layout with how its columns are stored.
use Rattle.std.specs.Prelude.{◌≡◌, ◌+◌, ℕ, true, List, ◌∷◌, Some, None, drop}
use Rattle.std.specs.List.{list_all}
use Rattle.blog_row.specs.declared.column.Storage as storage
use Rattle.blog_row.specs.declared.stored_layout.StoredLayout as told
use Rattle.blog_row.specs.Column.{Column, Layout, storage_of, columns_of, is_column}
use Rattle.blog_row.specs.code.LayoutView.{layout_columns}
use Rattle.blog_row.specs.code.StorageView.{storage_seen}

-- the columns, in order
abbrev pub stored_columns : told.StoredLayout → Layout
stored_columns stored = layout_columns stored.layout

-- the column of a number, counted from 0, is stored so
abbrev pub IsStoredAt : Layout → ℕ → storage.Storage → Type 0
IsStoredAt columns i stored = (column : Column) × (drop i columns ≡ column ∷ drop (i + 1) columns) × (storage_of column ≡ Some (storage_seen stored))

-- where the storages were not looked up, the metadata is that of the columns from one on
abbrev pub IsMetadataFrom : told.StoredLayout → ℕ → List ℕ → Type 0
IsMetadataFrom stored i metadata =
    stored.storages ≡ None → (columns_of (drop i stored.layout.kinds.now) metadata ≡ drop i (stored_columns stored)) × (list_all is_column (columns_of (drop i stored.layout.kinds.now) metadata) ≡ true)
