use Rattle.std.proofs.Common.{Bor, List, map, take, ℕ}
use Rattle.binlog_arguments.specs.Request.{AreNumbers}
use Rattle.binlog_arguments.proofs.list_arguments.read_numbers.Given as goal

-- the numbers are those of the values so far
abbrev pub invariant-loop-text : goal.invariant-loop-text
invariant-loop-text g l = AreNumbers (map (λ (v : Bor (List ℕ)). v.now) (take l.text-index l.values)) l.numbers.items
