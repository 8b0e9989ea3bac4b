use Rattle.std.proofs.Common.{◌≡◌, ◌-◌, ◌≤◌, length, vec_len}
use Rattle.blog_event.specs.code.LogView.{log_bytes}
use Rattle.bench_layers.proofs.event_layer.copy.Given as goal

-- the copy has what was read
abbrev pub invariant-loop-at : goal.invariant-loop-at
invariant-loop-at g l = record {
  within : l.at ≤ length (log_bytes l.log);
  len : vec_len l.out ≡ l.at;
}

abbrev pub decreases-loop-at : goal.decreases-loop-at
decreases-loop-at g l = length (log_bytes l.log) - l.at
