-- Which logs are gone through, by what is kept of it, and what comes of one of them.
use Rattle.std.specs.Prelude.{◌≡◌, ℕ, List, ⊤, Option, Some, None, Result, Ok, Err}
use Rattle.blog_source.specs.Found.{source_refusal}
use Rattle.blog_sum.specs.declared.fault.SumFault.{SumFault}
use Rattle.list_run.specs.Listed.{IsRead, NamedLog}
use Rattle.list_run.specs.declared.fault.ListFault.{ListFault}
use Rattle.list_run.specs.declared.fault.ListFault.TheVariants.{Run, Unread, EndsEarly}
use Rattle.list_run.specs.declared.given.GivenLog.{GivenLog}
use Rattle.show_run.specs.Shown.{Showing}
use Rattle.show_run.specs.declared.turns.Turn.{Turn}

abbrev pub showing_of : Turn → Showing
showing_of turn = record { how = turn.how; wanted = turn.all.wanted; places = turn.all.at.now; count = turn.count }

-- why a log isn't gone through: nothing can be read of what was read, or anything else, but it doesn't only end early
abbrev pub FailsOne : {R : Type 0} → (R → Option (List ℕ)) → GivenLog R → ListFault → Type 0
FailsOne known given (Run fault) = ⊤
FailsOne known given (Unread fault) = (log : NamedLog) × IsRead known given log × (source_refusal log.bytes ≡ Some fault)
FailsOne known given (EndsEarly fault) = ⊥

-- the answer has this first early end, or none
abbrev pub EndsWith : Option (ℕ × SumFault) → Result ℕ (ℕ × ListFault) → Type 0
EndsWith end (Ok units) = end ≡ None
EndsWith end (Err (n, EndsEarly fault)) = end ≡ Some (n, fault)
EndsWith end (Err (n, Unread fault)) = ⊥
EndsWith end (Err (n, Run fault)) = ⊥
