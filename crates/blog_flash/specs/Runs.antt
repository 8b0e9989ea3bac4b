-- What a run does to the bytes of its devices. Of a device that does not tell its bytes these words say that there are such
-- bytes, and for the reader that the answer is the one to them.
use Rattle.std.specs.Prelude.{◌≡◌, ◌⊎◌, ℕ, Bool, true, false, List, ⊤, Vec, Option, Result, Ok, Err}
use Rattle.std.specs.Io.KnownBytes.{Keeps, Appends}
use Rattle.blog_event.specs.declared.fault.Fault.{Fault}
use Rattle.blog_event.specs.declared.fault.Fault.TheVariants.{TooLong, OutOfMemory}
use Rattle.blog_device.specs.Devices.{greatest_length, PassesLimit, ReadsLog, AppendsBeginning}
use Rattle.blog_device.specs.declared.fault.RunFault.{RunFault}
use Rattle.blog_device.specs.declared.fault.RunFault.TheVariants.{Log, Read, Write}
use Rattle.blog_trans.specs.Selection.{Selection}
use Rattle.blog_trans.specs.Acceptance.{fault, IsRefusal}
use Rattle.blog_flash.specs.Answers.{IsOutput, IsRefused}
use Rattle.blog_flash.specs.declared.modes.Mode.{Mode}
use Rattle.blog_flash.specs.declared.modes.Mode.TheVariants as mode
use Rattle.blog_row.specs.declared.order.Order.{Order}
use Rattle.blog_row.specs.declared.order.Order.TheVariants.{Forward, Backward}

-- the answer is that of a run which ended before its first write
abbrev pub ends_before_writing : {X : Type 0} → Result X RunFault → Bool
ends_before_writing (Ok x) = false
ends_before_writing (Err (Log fault)) = true
ends_before_writing (Err Read) = true
ends_before_writing (Err Write) = false

-- why a log is refused: want of memory, the fault of the log that was read, or more bytes than a log may have
abbrev pub RefusesLog : Option (List ℕ) → Option (List ℕ) → Selection → Fault → Type 0
RefusesLog old new sel fault = (fault ≡ OutOfMemory)
    ⊎ ((log : List ℕ) × ReadsLog old new log × IsRefused log sel fault)
    ⊎ ((fault ≡ TooLong 0) × PassesLimit greatest_length old new)

-- what comes of reading a log: the output of all of it, why it is refused, or that a read failed
abbrev pub Prepares : {A : Type 0} → Option (List ℕ) → Option (List ℕ) → Mode → Selection → Result (Vec ℕ A) RunFault → Type 0
Prepares old new mode sel (Ok text) = (log : List ℕ) × ReadsLog old new log × IsOutput log mode sel text.items
Prepares old new mode sel (Err (Log fault)) = RefusesLog old new sel fault
Prepares old new mode sel (Err Read) = ⊤
Prepares old new mode sel (Err Write) = ⊥

-- what comes of a run, from a reader to a writer: the output of the whole log is written, or a beginning of it where
-- a write failed, or nothing where the log is refused or a read failed
abbrev pub Runs : Option (List ℕ) → Option (List ℕ) → Mode → Selection → Option (List ℕ) → Option (List ℕ) → Result Unit RunFault → Type 0
Runs old new mode sel had has (Ok done) = (log text : List ℕ) × ReadsLog old new log × IsOutput log mode sel text × Appends had has text
Runs old new mode sel had has (Err (Log fault)) = RefusesLog old new sel fault × Keeps had has
Runs old new mode sel had has (Err Read) = Keeps had has
Runs old new mode sel had has (Err Write) = (log text : List ℕ) × ReadsLog old new log × IsOutput log mode sel text × AppendsBeginning had has text

-- ---- a text that is written while it is made

-- what comes of it: all is written, or a beginning where a write failed; or memory was refused
abbrev pub IsWritten : Option (List ℕ) → Option (List ℕ) → List ℕ → Result Unit RunFault → Type 0
IsWritten had has text (Ok done) = Appends had has text
IsWritten had has text (Err (Log fault)) = fault ≡ OutOfMemory
IsWritten had has text (Err Read) = ⊥
IsWritten had has text (Err Write) = AppendsBeginning had has text

-- the mode whose output is the groups in an order, laid out
abbrev pub mode_in : Order → Mode
mode_in Forward = mode.Forward
mode_in Backward = mode.Flashback

-- what comes of writing the output of a log: as above, or the log is refused
abbrev pub IsOutputWritten : List ℕ → Mode → Selection → Option (List ℕ) → Option (List ℕ) → Result Unit RunFault → Type 0
IsOutputWritten log mode sel had has (Ok done) = (text : List ℕ) × IsOutput log mode sel text × Appends had has text
IsOutputWritten log mode sel had has (Err (Log f)) = IsRefusal (fault log sel) f
IsOutputWritten log mode sel had has (Err Read) = ⊥
IsOutputWritten log mode sel had has (Err Write) = (text : List ℕ) × IsOutput log mode sel text × AppendsBeginning had has text
