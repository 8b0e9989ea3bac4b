-- What comes of listing the units of the log of a source.
use Rattle.std.specs.Prelude.{◌≡◌, ◌⊎◌, ◌&&◌, ℕ, Bool, true, false, not, if◌then◌else◌, List, Option, None, Some, Result, Ok, Err}
use Rattle.blog_event.specs.declared.fault.Fault.TheVariants.{OutOfMemory, Unended}
use Rattle.blog_event.specs.Opening.{opening_fault}
use Rattle.blog_device.specs.declared.fault.RunFault.{RunFault}
use Rattle.blog_device.specs.declared.fault.RunFault.TheVariants.{Log, Read, Write}
use Rattle.blog_sum.specs.declared.fault.SumFault.{SumFault}
use Rattle.blog_sum.specs.declared.fault.SumFault.TheVariants as sums
use Rattle.blog_request.specs.Wanted.{is_before}

-- they are a log, and all is written, or a write failed; or they can't be opened, or memory was refused
abbrev pub Lists : {X : Type 0} → List ℕ → Result X RunFault → Type 0
Lists bytes (Ok end) = opening_fault bytes ≡ None
Lists bytes (Err (Log fault)) = (fault ≡ OutOfMemory) ⊎ (opening_fault bytes ≡ Some fault)
Lists bytes (Err Read) = ⊥
Lists bytes (Err Write) = opening_fault bytes ≡ None

-- why the reading of a list ended, where nothing else did: its last unit isn't whole
abbrev pub unended : Bool → ℕ → Option SumFault
unended true end = None
unended false end = Some (sums.Log (Unended end))

-- the fault with which the reading of the source ended, or else that
abbrev pub fault_or_unended : Option SumFault → Bool → ℕ → Option SumFault
fault_or_unended (Some fault) whole end = Some fault
fault_or_unended None whole end = unended whole end

-- why a list ends early, by the fault with which the reading of its source ended and by where that was: not if the last unit is
-- whole and the reading came to the stop
abbrev pub early_end : Option SumFault → ℕ → Bool → Option ℕ → Option SumFault
early_end fault end whole stop = if whole && not (is_before end stop) then None else fault_or_unended fault whole end

-- the same by whether the last unit is whole, where that counts: not if a unit starts at the stop or behind it
abbrev pub list_end : Option SumFault → ℕ → Option ℕ → Option Bool → Option SumFault
list_end fault end stop None = None
list_end fault end stop (Some whole) = early_end fault end whole stop
