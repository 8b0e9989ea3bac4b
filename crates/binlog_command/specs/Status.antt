-- The exit status of a run that failed.
use Rattle.std.specs.Prelude.{ℕ}
use Rattle.binlog_command.specs.declared.commands.Failure.{Failure}
use Rattle.binlog_command.specs.declared.commands.Failure.TheVariants.{Arguments}
use Rattle.binlog_arguments.specs.declared.arguments.ArgumentsFault.TheVariants.{Wrong, NotText, OutOfMemory}

-- 2 where the arguments are wrong, else 1
abbrev pub status_of : {A : Type 0} → Failure A → ℕ
status_of (Arguments (Wrong text)) = 2
status_of (Arguments NotText) = 2
status_of (Arguments OutOfMemory) = 1
status_of failure = 1
