use Rattle.std.proofs.Common.{◌-◌, ℕ, List}
use Rattle.blog_row.specs.Image.{row_of}
use Rattle.blog_pairs.specs.code.ColumnsView.{columns_told}
use Rattle.blog_pairs.specs.code.PairsView.{Fits, slots_told, table_at}
use Rattle.blog_pairs.proofs.Indexing.{IsBehind}
use Rattle.blog_pairs.proofs.places.place_of.Given as goal

-- the pairs of the row are in slots from this one on
abbrev pub invariant-slots : goal.invariant-slots
invariant-slots g l = (bodies : List (List ℕ)) → Fits bodies l.pairs l.table
    → IsBehind (table_at bodies l.table.number) (row_of (columns_told l.table.columns) l.image) (slots_told bodies l.pairs.slots.items) l.from

abbrev pub decreases-slots : goal.decreases-slots
decreases-slots g l = l.len - l.from
