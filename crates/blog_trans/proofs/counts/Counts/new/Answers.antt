use Rattle.std.proofs.Common.{ap, length, map, slice_get, arith, []}
use Rattle.std.specs.List.{IsDistinct}
use Rattle.blog_row.specs.TableMap.{Table}
use Rattle.blog_trans.specs.code.CountsView.{told_of}
use Rattle.blog_trans.proofs.counts.Counts.new.Goals as goal

pub returns-clause-counts : goal.returns-clause-counts
unfolding IsDistinct
returns-clause-counts g c = record {
  told = λ t. ap (λ rows. told_of t (slice_get rows 0)) c.new.ensures.items;
  firsts = ap (map (λ n. slice_get {X = Table} [] n)) c.new-2.ensures.items;
  few = omega (arith, ap length c.new.ensures.items);
  distinct = tt;
}
