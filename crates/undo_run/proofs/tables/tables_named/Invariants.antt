use Rattle.std.proofs.Common.{◌≡◌, ◌++◌, drop, map}
use Rattle.blog_choice.specs.code.Views.{name_value}
use Rattle.blog_text.specs.code.Counted.{counts_in}
use Rattle.undo_run.specs.Taken.{names_of}
use Rattle.undo_run.proofs.tables.tables_named.Given as goal

-- the names of the tables are left from number n on
abbrev pub invariant-loop-n : goal.invariant-loop-n
invariant-loop-n g l = map name_value l.names.items ++ names_of (drop l.n (counts_in l.index)) ≡ names_of (counts_in l.index)
