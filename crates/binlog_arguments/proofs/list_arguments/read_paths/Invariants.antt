use Rattle.std.proofs.Common.{◌≡◌, Bor, List, map, take, ℕ}
use Rattle.binlog_arguments.proofs.list_arguments.read_paths.Given as goal

-- those so far
abbrev pub invariant-loop-path : goal.invariant-loop-path
invariant-loop-path g l = map (λ (path : Bor (List ℕ)). path.now) l.paths.items ≡ map (λ (path : Bor (List ℕ)). path.now) (take l.path-index l.values)
