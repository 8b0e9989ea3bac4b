use Rattle.std.proofs.Common.{◌≡◌, ◌≤◌, ◌+◌, ◌*◌, ◌++◌, drop}
use Rattle.blog_text.specs.Tables.{counts_text, further_text, largest_first}
use Rattle.blog_text.specs.code.Counted.{counts_in}
use Rattle.blog_text.proofs.tables.put_largest.Given as goal

-- the tables are left from number n on, and each took seven columns or more
abbrev pub invariant-further : goal.invariant-further
invariant-further g l = record {
  text : l.out.items ++ further_text l.left (drop l.n (largest_first (counts_in l.index))) ≡ l.fn.out.items ++ counts_text l.fn.room (counts_in l.index);
  room : l.left + 7 * l.n ≤ 70;
}
