use Rattle.std.proofs.Common.{◌≤◌, length}
use Rattle.bench_layers.proofs.row_layer.put_all.Given as goal

abbrev pub invariant-loop-rows : goal.invariant-loop-rows
invariant-loop-rows l = l.at ≤ length l.room
