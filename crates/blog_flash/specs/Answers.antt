-- What a log is answered with.
use Rattle.std.specs.Prelude.{◌≡◌, ◌⊎◌, ℕ, List, Vec, Some, Result, Ok, Err}
use Rattle.blog_event.specs.declared.fault.Fault.{Fault}
use Rattle.blog_event.specs.declared.fault.Fault.TheVariants.{OutOfMemory}
use Rattle.blog_trans.specs.Selection.{Selection}
use Rattle.blog_trans.specs.Acceptance.{IsAccepted, fault}
use Rattle.blog_flash.specs.Outputs.{output_of, MeetsHeadline}
use Rattle.blog_flash.specs.declared.modes.Mode.{Mode}

-- the log is accepted, and this text is its output, of which the headline holds
abbrev pub IsOutput : List ℕ → Mode → Selection → List ℕ → Type 0
IsOutput log mode sel text = IsAccepted log sel × (text ≡ output_of mode log sel) × MeetsHeadline mode log sel text

-- the log is refused, and this is its fault
abbrev pub IsRefused : List ℕ → Selection → Fault → Type 0
IsRefused log sel f = fault log sel ≡ Some f

-- an accepted log is answered with its output, a refused one with its fault, unless memory was refused
abbrev pub Answers : {A : Type 0} → List ℕ → Mode → Selection → Result (Vec ℕ A) Fault → Type 0
Answers log mode sel (Ok text) = IsOutput log mode sel text.items
Answers log mode sel (Err f) = (f ≡ OutOfMemory) ⊎ IsRefused log sel f
