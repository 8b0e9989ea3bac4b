use Rattle.std.proofs.Common.{◌≡◌, ◌≤◌, ◌+◌, drop}
use Rattle.blog_row.specs.code.LayoutReading.{marked_total}
use Rattle.blog_row.proofs.layout.metadata_len_of_all.Given as goal

abbrev pub invariant-loop-kind : goal.invariant-loop-kind
invariant-loop-kind l = record {
  sum : l.total + marked_total (drop l.kind-index l.kinds) ≡ marked_total l.kinds;
  few : l.total ≤ 8192;
}
