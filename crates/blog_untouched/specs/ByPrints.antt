-- The part of the selected changes that can be undone while the rest is left, by fingerprints of rows.
use Rattle.std.specs.Prelude.{ℕ, Bool, false, not, ◌&&◌, ◌||◌, List, [], ◌∷◌, Option, Some, nat_eq}
use Rattle.std.specs.List.{list_all}
use Rattle.blog_trans.specs.Changes.{Change}
use Rattle.blog_undo.specs.Mixed.{Marked, TableRow, leaves, takes}

-- two rows have the same fingerprint
abbrev pub has_same_print : (TableRow → ℕ) → Option TableRow → Option TableRow → Bool
has_same_print f (Some r) (Some s) = nat_eq (f r) (f s)
has_same_print f _ _ = false

-- a change touches one before it: the row that it takes has the fingerprint of the one that was left
abbrev pub touches_by_print : (TableRow → ℕ) → Change → Change → Bool
touches_by_print f later change = has_same_print f (takes later) (leaves change)

-- a change is touched by none of the changes after it but selected ones
abbrev pub is_left_alone_by : (TableRow → ℕ) → Change → List Marked → Bool
is_left_alone_by f change later = list_all (λ m. m.selected || not (touches_by_print f m.change change)) later

-- From the last change to the first, a selected change is kept if no change after it touches it but kept ones. In the result,
-- the selected changes are the kept ones. They are the part; all other changes are outside of it.
abbrev pub part_by : (TableRow → ℕ) → List Marked → List Marked
part_by f [] = []
part_by f (m ∷ ms) = let part = part_by f ms in record m { selected = m.selected && is_left_alone_by f m.change part } ∷ part
