use Rattle.std.proofs.Common.{◌≡◌, ◌≤◌, ◌+◌, ◌*◌, ◌^◌, drop}
use Rattle.blog_row.specs.Column.{Layout}
use Rattle.blog_row.specs.code.StorageView.{AreStored}
use Rattle.blog_row.specs.code.PositionView.{behind_from}
use Rattle.blog_row.proofs.storages.columns_end.Given as goal

abbrev pub invariant-loop-k : goal.invariant-loop-k
invariant-loop-k g l = record {
  near : l.end ≤ l.at + l.k * 2 ^ 33;
  behind : (columns : Layout) → AreStored columns (drop l.from l.storages) → behind_from columns l.nulls l.from l.at l.bytes ≡ behind_from (drop l.k columns) l.nulls (l.from + l.k) l.end l.bytes;
}
