-- Events that are appended to a log one after the other.
use Rattle.std.specs.Prelude.{◌≡◌, ℕ, ◌<◌, ◌≤◌, ⊤, List, ◌++◌, length, Result, Ok, Err}
use Rattle.blog_event.specs.Event.{Event}
use Rattle.blog_event.specs.File.{end_of}
use Rattle.blog_flash.specs.code.LaidOut.{text_from}
use Rattle.blog_net.specs.declared.fault.NetFault.{NetFault}
use Rattle.blog_net.specs.declared.fault.NetFault.TheVariants.{OutOfMemory, TooLong, Unfit}

-- events are appended to these bytes
abbrev pub IsPut : List ℕ → List Event → List ℕ → Type 0
IsPut old es new = (new ≡ old ++ text_from (length old) es) × (length new ≤ 4294967295)

-- they aren't: with them the log would be too long, or memory was refused
abbrev pub Refuses : List ℕ → List Event → NetFault → Type 0
Refuses old es OutOfMemory = ⊤
Refuses old es TooLong = 4294967295 < end_of (length old) es
Refuses old es Unfit = ⊥

abbrev pub Puts : List ℕ → List Event → List ℕ → Result ⊤ NetFault → Type 0
Puts old es new (Ok _) = IsPut old es new
Puts old es new (Err fault) = Refuses old es fault
