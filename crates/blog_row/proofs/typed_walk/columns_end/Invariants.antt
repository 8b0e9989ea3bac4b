use Rattle.std.proofs.Common.{◌≡◌, ◌+◌, true, drop}
use Rattle.std.specs.List.{list_all}
use Rattle.blog_row.specs.Column.{columns_of, is_column}
use Rattle.blog_row.specs.code.PositionView.{behind_from}
use Rattle.blog_row.proofs.typed_walk.columns_end.Given as goal

abbrev pub invariant-loop-k : goal.invariant-loop-k
invariant-loop-k l =
    (list_all is_column (columns_of (drop (l.from + l.k) l.kinds) l.left) ≡ true)
    × (behind_from (columns_of (drop l.from l.kinds) l.metadata) l.nulls l.from l.at l.bytes ≡ behind_from (columns_of (drop (l.from + l.k) l.kinds) l.left) l.nulls (l.from + l.k) l.end l.bytes)
