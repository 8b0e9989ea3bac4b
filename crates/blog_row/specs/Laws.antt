-- What reading gives is what the relations say, in both directions.
use Rattle.std.specs.Prelude.{◌≡◌, ◌↔◌, ℕ, List, ◌++◌, Some, Ok}
use Rattle.std.specs.List.{concat, AllByRecursion}
use Rattle.blog_row.specs.declared.kind.RowsKind.{RowsKind}
use Rattle.blog_row.specs.Packed.{IsPacked, packed_front}
use Rattle.blog_row.specs.Column.{Column, Layout, Spells, value_front}
use Rattle.blog_row.specs.Image.{Row, IsImage, IsSomeImage, image_front, images_of}
use Rattle.blog_row.specs.TableMap.{Names, HasNames, names_of, LayoutFields, HasLayout, layout_fields}
use Rattle.blog_row.specs.RowsEvent.{RowsBody, IsRowsBody, rows_of}

-- a packed integer stands at the front
abbrev pub ReadsPacked : List ℕ → ℕ → List ℕ → List ℕ → Type 0
ReadsPacked bytes n spelling rest = (packed_front bytes ≡ Some (n, spelling, rest)) ↔ (IsPacked spelling n × (bytes ≡ spelling ++ rest))

-- a column's value stands at the front
abbrev pub ReadsValue : Column → List ℕ → List ℕ → List ℕ → Type 0
ReadsValue column bytes value rest = (value_front column bytes ≡ Some (value, rest)) ↔ ((first : List ℕ) × Spells column value first × (bytes ≡ first ++ rest))

-- an image of a row stands at the front
abbrev pub ReadsImage : Layout → List ℕ → Row → List ℕ → Type 0
ReadsImage layout bytes row rest = (image_front layout bytes ≡ Some (row, rest)) ↔ ((image : List ℕ) × IsImage layout row image × (bytes ≡ image ++ rest))

-- the bytes are images, one after the other
abbrev pub ReadsImages : Layout → List ℕ → List (List ℕ) → Type 0
ReadsImages layout bytes images = (images_of layout bytes ≡ Some images) ↔ (AllByRecursion (IsSomeImage layout) images × (bytes ≡ concat images))

-- a table map's body has these names
abbrev pub ReadsNames : List ℕ → Names → Type 0
ReadsNames body names = (names_of body ≡ Some names) ↔ HasNames body names

-- bytes behind the names have this layout
abbrev pub ReadsLayout : List ℕ → LayoutFields → Type 0
ReadsLayout bytes fields = (layout_fields bytes ≡ Ok fields) ↔ HasLayout bytes fields

-- a rows event's body has these fields
abbrev pub ReadsRows : RowsKind → Layout → List ℕ → RowsBody → Type 0
ReadsRows kind layout body fields = (rows_of kind layout body ≡ Ok fields) ↔ IsRowsBody kind layout body fields
