use Rattle.std.proofs.Common.{◌≡◌, ◌++◌, drop}
use Rattle.std.specs.Prelude.{map}
use Rattle.blog_choice.specs.code.ChosenNaming.{tables_of}
use Rattle.blog_choice.specs.code.Sets.{words_of}
use Rattle.blog_choice.specs.code.Views.{name_value}
use Rattle.blog_choice.proofs.chosen_names.table_names.Given as goal

-- those of the tables that are left are still to be added
abbrev pub invariant-loop-name : goal.invariant-loop-name
invariant-loop-name g l = words_of l.names.items ++ tables_of (map name_value (drop l.name-index l.tables)) ≡ tables_of (map name_value l.tables)
