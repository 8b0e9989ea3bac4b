-- What a list that is being made has come to.
use Rattle.std.specs.Prelude.{◌≡◌, ℕ, Bool, true, false, List, ◌++◌, Option, Result, Err}
use Rattle.std.specs.Io.KnownBytes.{Appends}
use Rattle.jiff.specs.Types.{TimeZone}
use Rattle.blog_device.specs.Devices.{AppendsBeginning}
use Rattle.blog_event.specs.declared.fault.Fault.{Fault}
use Rattle.blog_event.specs.declared.fault.Fault.TheVariants.{OutOfMemory}
use Rattle.blog_list.specs.declared.listing.Form.{Form}
use Rattle.blog_list.specs.Lines.{LogList}
use Rattle.blog_list.specs.Texts.{IsLogBegun, IsLogText}

-- how lines are written: in this form, in this zone, with ids or without, with times in a column of this width, behind what was
-- held before
pub record Sheet : Type 0 where
  pub form : Form
  pub zone : TimeZone
  pub gtids : Bool
  pub width : ℕ
  pub before : List ℕ

-- a part of what was held is written, and the rest is still held
abbrev pub HasWritten : Option (List ℕ) → Option (List ℕ) → List ℕ → List ℕ → Type 0
HasWritten old new before after = (part : List ℕ) × Appends old new part × (part ++ after ≡ before)

-- what is listed of a log is held or written behind what was held before
abbrev pub HasListed : Form → TimeZone → Bool → ℕ → LogList → Option (List ℕ) → Option (List ℕ) → List ℕ → List ℕ → Type 0
HasListed form zone gtids width l old new before after = (text : List ℕ) × IsLogText form zone gtids width l text × HasWritten old new (before ++ text) after

-- no more is written than what was held before, and a beginning of what is listed of a log
abbrev pub HasBegun : Form → TimeZone → Bool → ℕ → LogList → Option (List ℕ) → Option (List ℕ) → List ℕ → Type 0
HasBegun form zone gtids width l old new before = (text : List ℕ) × IsLogBegun form zone gtids width l text × AppendsBeginning old new (before ++ text)

-- memory was refused
abbrev pub has_no_memory : {X : Type 0} → Result X Fault → Bool
has_no_memory (Err OutOfMemory) = true
has_no_memory _ = false
