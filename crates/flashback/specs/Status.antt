-- The exit status of a run that failed.
use Rattle.std.specs.Prelude.{ℕ}
use Rattle.flashback.specs.declared.commands.Failure.{Failure}
use Rattle.flashback.specs.declared.commands.Failure.TheVariants.{Arguments, NoLog, NoResultFile, Run}
use Rattle.flashback.specs.declared.arguments.ArgumentsFault.TheVariants.{Wrong, Mode, NotText, OutOfMemory}

-- 2 where the arguments are wrong, else 1
abbrev pub status_of : {A : Type 0} → Failure A → ℕ
status_of (Arguments (Wrong text)) = 2
status_of (Arguments (Mode fault)) = 2
status_of (Arguments NotText) = 2
status_of (Arguments OutOfMemory) = 1
status_of NoLog = 1
status_of NoResultFile = 1
status_of (Run fault) = 1
