use Rattle.std.proofs.Common.{◌≡◌, Bor, List, length, map, take, ℕ}
use Rattle.list_run.specs.declared.given.GivenLog.{GivenLog}
use Rattle.binlog_command.proofs.log_file.open_logs.Given as goal

-- the logs so far are those of the paths so far, and each has an id
abbrev pub invariant-loop-path : goal.invariant-loop-path
invariant-loop-path g l = record {
  named : map (λ (log : GivenLog _). log.name.now) l.logs.items ≡ map (λ (path : Bor (List ℕ)). path.now) (take l.path-index l.paths);
  ids : length l.ids.items ≡ l.path-index;
}
