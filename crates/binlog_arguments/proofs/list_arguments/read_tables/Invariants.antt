use Rattle.std.proofs.Common.{◌≡◌, Bor, List, map, take, ℕ}
use Rattle.blog_choice.specs.Choice.{read_name}
use Rattle.blog_choice.specs.code.Views.{name_value}
use Rattle.binlog_arguments.proofs.list_arguments.read_tables.Given as goal

-- the tables are those of the names so far
abbrev pub invariant-loop-text : goal.invariant-loop-text
invariant-loop-text g l = map name_value l.tables.items ≡ map read_name (map (λ (v : Bor (List ℕ)). v.now) (take l.text-index l.names))
