-- What a contract sees of a storage.
use Rattle.std.specs.Prelude.{◌≡◌, ◌≤◌, ℕ, List, [], ◌∷◌, length, take, map, Option, Some, IfSome}
use Rattle.blog_row.specs.declared.column.Prefix.{Prefix}
use Rattle.blog_row.specs.declared.column.Prefix.TheVariants.{One, Two, Three, Four}
use Rattle.blog_row.specs.declared.column.Storage as told
use Rattle.blog_row.specs.declared.column.Storage.TheVariants as variants
use Rattle.blog_row.specs.Column.{Layout, Storage, Fixed, Counted, storage_of}

-- how many bytes a length has
abbrev pub prefix_seen : Prefix → ℕ
prefix_seen One = 1
prefix_seen Two = 2
prefix_seen Three = 3
prefix_seen Four = 4

-- so many bytes, or a length of so many bytes in front
abbrev pub storage_seen : told.Storage → Storage
storage_seen (variants.Fixed width) = Fixed width
storage_seen (variants.Counted prefix) = Counted (prefix_seen prefix)

-- the columns are stored so, each as the storage in its place
abbrev pub AreStored : Layout → List told.Storage → Type 0
AreStored [] [] = Unit {0}
AreStored [] (storage ∷ storages) = ⊥
AreStored (column ∷ columns) [] = ⊥
AreStored (column ∷ columns) (storage ∷ storages) = (storage_of column ≡ Some (storage_seen storage)) × AreStored columns storages

-- where storages were looked up for the columns, which are few then, the first of them are theirs
abbrev pub AreLookedUp : Layout → Option (List told.Storage) → Type 0
AreLookedUp columns storages =
    IfSome storages (λ each. (length columns ≤ 64) × (map storage_of columns ≡ map (λ storage. Some (storage_seen storage)) (take (length columns) each)))
