-- What is said of a run, said of the outcome of a task.
use Rattle.std.specs.Prelude.{Result, Ok, Err, ⊤}
use Rattle.blog_device.specs.declared.fault.RunFault.{RunFault}
use Rattle.flashback.specs.declared.commands.Failure.{Failure}
use Rattle.flashback.specs.declared.commands.Failure.TheVariants.{Arguments, NoLog, NoResultFile, Run}

-- the outcome is a run's answer, of which this holds
abbrev pub OfRun : {A : Type 0} → (Result Unit RunFault → Type 0) → Result Unit (Failure A) → Type 0
OfRun P (Ok done) = P (Ok done)
OfRun P (Err (Arguments fault)) = ⊥
OfRun P (Err NoLog) = ⊥
OfRun P (Err NoResultFile) = ⊥
OfRun P (Err (Run fault)) = P (Err fault)
