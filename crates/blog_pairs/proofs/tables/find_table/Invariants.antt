use Rattle.std.proofs.Common.{◌≡◌, ◌≢◌, ◌<◌, ℕ}
use Rattle.blog_row.specs.TableMap.{map_names}
use Rattle.blog_pairs.specs.code.PairsView.{bodies_of, table_at}
use Rattle.blog_pairs.proofs.tables.find_table.Given as goal

-- no table before has the name
abbrev pub invariant-loop-held : goal.invariant-loop-held
invariant-loop-held g l = record {
  at : l.n ≡ l.held-index;
  none : (i : ℕ) → i < l.n → table_at (bodies_of l.tables) i ≢ (map_names l.table).table;
}
