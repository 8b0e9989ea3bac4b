use Rattle.std.proofs.Common.{List, [], map, length, sym, ap, subst, arith}
use Rattle.blog_row.specs.TableMap.{Table}
use Rattle.blog_trans.specs.code.TablesView.{table_named}
use Rattle.blog_trans.specs.code.CountsView.{AreCounts}
use Rattle.blog_trans.proofs.builder.IndexBuilder.new.Goals as goal

pub returns-clause-walks : goal.returns-clause-walks
returns-clause-walks g c = λ sel. record {
  passed = tt;
  checker = c.new.ensures.known sel;
  keeps = record {
    lists = c.new-2.ensures;
    counts = subst (λ (tables : List Table). AreCounts tables [] [] c.new-3.result) (sym (ap (λ entries. map table_named (map (λ e. e.0) entries)) c.new.ensures.layouts)) c.new-3.ensures.counts;
  };
}

pub returns-clause-within : goal.returns-clause-within
returns-clause-within g c = record {
  entries = omega (arith, c.new.ensures.empty, ap length c.new-2.ensures.shows.entries_are);
  tables = omega (arith, ap length c.new.ensures.layouts);
  images = omega arith;
}
