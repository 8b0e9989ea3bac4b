use Rattle.std.proofs.Common.{Bor, List, map, take, ℕ}
use Rattle.blog_sql.specs.Changed.{HaveShortNames}
use Rattle.binlog_arguments.specs.Request.{AreSchemas}
use Rattle.binlog_arguments.proofs.sql_arguments.read_schemas.Given as goal

-- the schemas are those of the values so far
abbrev pub invariant-loop-text : goal.invariant-loop-text
invariant-loop-text g l = AreSchemas (map (λ (v : Bor (List ℕ)). v.now) (take l.text-index l.values)) l.schemas.items × HaveShortNames l.schemas.items
