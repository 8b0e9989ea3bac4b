-- What a contract sees of a log of updates, and why it isn't written.
use Rattle.std.specs.Prelude.{◌≡◌, ℕ, ◌<◌, ⊤, List, length, map}
use Rattle.blog_event.specs.declared.fault.Fault as read
use Rattle.blog_event.specs.declared.fault.Fault.TheVariants as event
use Rattle.blog_trans.specs.Acceptance.{IsAccepted}
use Rattle.blog_trans.specs.Selection.{all}
use Rattle.blog_net.specs.code.RowBytes.{log_rows, update_row}
use Rattle.blog_net.specs.declared.fault.NetFault.{NetFault}
use Rattle.blog_net.specs.declared.fault.NetFault.TheVariants.{OutOfMemory, TooLong, Unfit}
use Rattle.blog_net.specs.declared.net.NetLog.{NetLog}
use Rattle.blog_net.specs.declared.update.NetUpdate.{NetUpdate}

-- its bytes
abbrev pub bytes_of_net : {A : Type 0} → NetLog A → List ℕ
bytes_of_net net = net.bytes.items

-- a fault of the log that was written
abbrev pub net_fault : read.Fault → NetFault
net_fault event.OutOfMemory = OutOfMemory
net_fault _ = Unfit

-- a text is accepted, and its rows are those of the updates, byte for byte
abbrev pub IsNet : List ℕ → List NetUpdate → Type 0
IsNet text us = IsAccepted text all × (log_rows text all ≡ map update_row us)

-- it isn't written: memory was refused, it would be too long, or it isn't accepted or has other rows
abbrev pub IsUnwritten : List ℕ → List NetUpdate → NetFault → Type 0
IsUnwritten text us OutOfMemory = ⊤
IsUnwritten text us TooLong = 4294967295 < length text
IsUnwritten text us Unfit = ¬ IsNet text us
