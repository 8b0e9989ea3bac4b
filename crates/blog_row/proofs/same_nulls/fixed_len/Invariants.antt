use Rattle.std.proofs.Common.{◌≡◌, ◌≤◌, ◌+◌, ◌*◌, ◌^◌, List, ℕ, get_or, drop}
use Rattle.blog_row.specs.Column.{Layout}
use Rattle.blog_row.specs.code.PositionView.{behind_from}
use Rattle.blog_row.specs.code.StorageView.{AreStored}
use Rattle.blog_row.proofs.same_nulls.fixed_len.Given as goal

abbrev pub invariant-loop-i : goal.invariant-loop-i
invariant-loop-i l = record {
  some : 1 ≤ l.len;
  near : l.len ≤ 1 + l.i * 2 ^ 32;
  behind : (columns : Layout) (bits bytes : List ℕ) → AreStored columns l.storages → get_or bits 0 0 ≡ l.nulls → behind_from columns bits 0 1 bytes ≡ behind_from (drop l.i columns) bits l.i l.len bytes;
}
