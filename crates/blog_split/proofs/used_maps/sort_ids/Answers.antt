use Rattle.std.proofs.lemmas.List.Sorted.{IsNonDecreasingBy-from_sort_by_key}
use Rattle.std.proofs.Common.{rules}
use Rattle.blog_split.proofs.MapIds.{listed-moved}
use Rattle.blog_split.proofs.used_maps.sort_ids.Goals as goal

pub returns-then-is_sorted-clause-table : goal.returns-then-is_sorted-clause-table
returns-then-is_sorted-clause-table g c maps listed ordered = record { all = listed; ordered = ordered c.if-is_sorted.true }

pub returns-clause-table : goal.returns-clause-table
returns-clause-table g c maps listed ordered = record {
  all = listed-moved maps _ _ listed c.sort_unstable_by_key.ensures.permutation;
  ordered = IsNonDecreasingBy-from_sort_by_key (λ e. e.id) _ c.sort_unstable_by_key.ensures.sorted (λ a r q k. search rules);
}
