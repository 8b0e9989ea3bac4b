use Rattle.std.proofs.Common.{ℕ, ◌<◌}
use Rattle.result_file.specs.FileIds.{IsRepeated}
use Rattle.result_file.proofs.file_id.first_repeated.Given as goal

-- no id before this one is at two places
abbrev pub invariant-loop-later : goal.invariant-loop-later
invariant-loop-later l = (i j : ℕ) → j < l.later → ¬ IsRepeated l.ids i j
