use Rattle.std.proofs.Common.{◌≡◌, ◌≤◌, ◌+◌, ◌*◌, ◌^◌, ◌-◌, ◌%◌, length, drop}
use Rattle.blog_row.specs.Column.{Layout}
use Rattle.blog_row.specs.code.StorageView.{AreStored}
use Rattle.blog_row.specs.code.PositionView.{behind_from}
use Rattle.blog_row.proofs.storages.values_end_as.Given as goal

abbrev pub invariant-columns : goal.invariant-columns
invariant-columns g l = record {
  below : l.from ≤ length l.storages;
  whole : l.from % 8 ≡ 0;
  near : l.end ≤ 512 + l.from * 2 ^ 33;
  behind : (columns : Layout) → AreStored columns l.storages → behind_from columns l.nulls 0 l.at l.bytes ≡ behind_from (drop l.from columns) l.nulls l.from l.end l.bytes;
}

abbrev pub decreases-columns : goal.decreases-columns
decreases-columns g l = length l.storages - l.from
