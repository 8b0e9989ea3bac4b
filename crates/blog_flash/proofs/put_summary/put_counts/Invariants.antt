use Rattle.std.proofs.Common.{◌≡◌, ◌≤◌, ◌++◌, drop, vec_capacity}
use Rattle.std.specs.List.{flat_map}
use Rattle.blog_trans.specs.Changes.{counts_of}
use Rattle.blog_trans.specs.Groups.{groups}
use Rattle.blog_trans.specs.code.IndexView.{index_bytes, index_selection}
use Rattle.blog_flash.specs.Printed.{count_line}
use Rattle.blog_flash.proofs.put_summary.put_counts.Given as goal

-- the tables are left from number n on
abbrev pub invariant-loop-n : goal.invariant-loop-n
invariant-loop-n g l = record {
  text : l.out.items ++ flat_map count_line (drop l.n (counts_of (groups (index_bytes l.index) (index_selection l.index)))) ≡ l.fn.out.items ++ flat_map count_line (counts_of (groups (index_bytes l.index) (index_selection l.index)));
  capacity : vec_capacity l.fn.out ≤ vec_capacity l.out;
}
