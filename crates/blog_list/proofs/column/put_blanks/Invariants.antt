use Rattle.std.proofs.Common.{◌≡◌, ◌++◌, replicate}
use Rattle.blog_list.proofs.column.put_blanks.Given as goal

abbrev pub invariant-blanks : goal.invariant-blanks
invariant-blanks g l = l.out.items ≡ l.fn.out.items ++ replicate l.counter 32
