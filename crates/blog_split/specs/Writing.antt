-- What comes of writing a log with its statements cut. Of a device that does not tell its bytes these words say that
-- there are such bytes.
use Rattle.std.specs.Prelude.{ℕ, ◌≤◌, Bool, true, false, List, length, Option, Result, Ok, Err}
use Rattle.std.specs.Io.KnownBytes.{Appends}
use Rattle.blog_device.specs.Devices.{AppendsBeginning}
use Rattle.blog_split.specs.declared.fault.SplitRunFault.{SplitRunFault}
use Rattle.blog_split.specs.declared.fault.SplitRunFault.TheVariants.{Split, Write}
use Rattle.blog_split.specs.Putting.{Refuses}

-- the answer comes before the first write
abbrev pub ends_before_writing : Result Unit SplitRunFault → Bool
ends_before_writing (Ok done) = false
ends_before_writing (Err (Split e)) = true
ends_before_writing (Err Write) = false

-- the answer is that a write failed
abbrev pub is_writing_fault : Result Unit SplitRunFault → Bool
is_writing_fault (Ok done) = false
is_writing_fault (Err (Split e)) = false
is_writing_fault (Err Write) = true

-- a text is written, or a beginning of it where a write failed; or it is refused
abbrev pub IsCutWritten : Option (List ℕ) → Option (List ℕ) → List ℕ → Result Unit SplitRunFault → Type 0
IsCutWritten had has text (Ok done) = Appends had has text × (length text ≤ 4294967295)
IsCutWritten had has text (Err (Split e)) = Refuses (length text) e
IsCutWritten had has text (Err Write) = AppendsBeginning had has text × (length text ≤ 4294967295)
