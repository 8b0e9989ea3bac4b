use Rattle.std.proofs.Common.{◌≡◌, ◌+◌, ◌≤◌, drop}
use Rattle.std.specs.Prelude.{filter}
use Rattle.blog_choice.specs.Choice.{chooses}
use Rattle.blog_choice.specs.code.Views.{choice_value}
use Rattle.blog_trans.specs.Changes.{counts_of}
use Rattle.blog_trans.specs.Groups.{groups}
use Rattle.blog_trans.specs.code.IndexView.{index_bytes, index_selection}
use Rattle.blog_list.specs.Lines.{at_most, rows_of}
use Rattle.blog_list.proofs.ranking.chosen_rows.Given as goal

-- the tables are left from number n on
abbrev pub invariant-loop-n : goal.invariant-loop-n
invariant-loop-n g l = record {
  sum_is : at_most (l.rows + rows_of (filter (λ c. chooses (choice_value l.choice) c.table.schema c.table.name) (drop l.n (counts_of (groups (index_bytes l.index) (index_selection l.index))))))
      ≡ at_most (rows_of (filter (λ c. chooses (choice_value l.choice) c.table.schema c.table.name) (counts_of (groups (index_bytes l.index) (index_selection l.index)))));
  fits : l.rows ≤ 18446744073709551615;
}
