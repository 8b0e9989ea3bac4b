use Rattle.std.proofs.Common.{Bor, List, map, take, ℕ}
use Rattle.binlog_arguments.specs.Request.{AreIds}
use Rattle.binlog_arguments.proofs.list_arguments.read_gtids.Given as goal

-- the ids are those of the values so far
abbrev pub invariant-loop-text : goal.invariant-loop-text
invariant-loop-text g l = AreIds (map (λ (v : Bor (List ℕ)). v.now) (take l.text-index l.values)) l.gtids.items
