use Rattle.std.proofs.Common.{◌≡◌, ◌≤◌, ◌-◌, ◌%◌, true, length, drop}
use Rattle.std.specs.List.{list_all}
use Rattle.blog_row.specs.Column.{columns_of, is_column}
use Rattle.blog_row.specs.code.PositionView.{behind_from}
use Rattle.blog_row.proofs.typed_walk.values_end.Given as goal

abbrev pub invariant-columns : goal.invariant-columns
invariant-columns l =
    (l.from ≤ length l.kinds) × (l.from % 8 ≡ 0) × (list_all is_column (columns_of (drop l.from l.kinds) l.left) ≡ true)
    × (behind_from (columns_of l.kinds l.metadata) l.nulls 0 l.at l.bytes ≡ behind_from (columns_of (drop l.from l.kinds) l.left) l.nulls l.from l.end l.bytes)

abbrev pub decreases-columns : goal.decreases-columns
decreases-columns l = length l.kinds - l.from
