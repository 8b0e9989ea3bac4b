-- Why a log is refused: the table of the faults, and lists of checks of which the first that fails decides.
use Rattle.std.specs.Prelude.{ℕ, Bool, true, false, List, [], ◌∷◌, Option, Some, None, codes, option_map}
use Rattle.blog_event.specs.declared.fault.Fault.{Fault}
use Rattle.blog_event.specs.declared.fault.Fault.TheVariants as fault

-- the number of a fault
abbrev pub number_of : Fault → ℕ
number_of (fault.NotABinlog pos) = 1
number_of (fault.CutEvent pos) = 2
number_of (fault.BadFormat pos) = 3
number_of (fault.OldServer pos) = 4
number_of (fault.Checksums pos) = 5
number_of (fault.NoEventAt pos) = 6
number_of (fault.Statement pos) = 7
number_of (fault.RolledBack pos) = 8
number_of (fault.OutOfPlace pos) = 9
number_of (fault.Unended pos) = 10
number_of (fault.NoMap pos) = 11
number_of (fault.MapClash pos) = 12
number_of (fault.PartialImage pos) = 13
number_of (fault.UnknownType pos) = 14
number_of (fault.BadBody pos) = 15
number_of (fault.UnknownEvent pos) = 16
number_of (fault.TooLong pos) = 17
number_of fault.OutOfMemory = 18

-- its name, with which its text begins
abbrev pub name_of : Fault → List ℕ
name_of (fault.NotABinlog pos) = codes "NotABinlog"
name_of (fault.CutEvent pos) = codes "CutEvent"
name_of (fault.BadFormat pos) = codes "BadFormat"
name_of (fault.OldServer pos) = codes "OldServer"
name_of (fault.Checksums pos) = codes "Checksums"
name_of (fault.NoEventAt pos) = codes "NoEventAt"
name_of (fault.Statement pos) = codes "Statement"
name_of (fault.RolledBack pos) = codes "RolledBack"
name_of (fault.OutOfPlace pos) = codes "OutOfPlace"
name_of (fault.Unended pos) = codes "Unended"
name_of (fault.NoMap pos) = codes "NoMap"
name_of (fault.MapClash pos) = codes "MapClash"
name_of (fault.PartialImage pos) = codes "PartialImage"
name_of (fault.UnknownType pos) = codes "UnknownType"
name_of (fault.BadBody pos) = codes "BadBody"
name_of (fault.UnknownEvent pos) = codes "UnknownEvent"
name_of (fault.TooLong pos) = codes "TooLong"
name_of fault.OutOfMemory = codes "OutOfMemory"

-- its position, for all but the last
abbrev pub position_of : Fault → Option ℕ
position_of (fault.NotABinlog pos) = Some pos
position_of (fault.CutEvent pos) = Some pos
position_of (fault.BadFormat pos) = Some pos
position_of (fault.OldServer pos) = Some pos
position_of (fault.Checksums pos) = Some pos
position_of (fault.NoEventAt pos) = Some pos
position_of (fault.Statement pos) = Some pos
position_of (fault.RolledBack pos) = Some pos
position_of (fault.OutOfPlace pos) = Some pos
position_of (fault.Unended pos) = Some pos
position_of (fault.NoMap pos) = Some pos
position_of (fault.MapClash pos) = Some pos
position_of (fault.PartialImage pos) = Some pos
position_of (fault.UnknownType pos) = Some pos
position_of (fault.BadBody pos) = Some pos
position_of (fault.UnknownEvent pos) = Some pos
position_of (fault.TooLong pos) = Some pos
position_of fault.OutOfMemory = None

-- a fault but for its position
abbrev pub Cause : Type 0
Cause = ℕ → Fault

-- a check: the cause if the test fails
abbrev pub needs : Bool → Cause → Option Cause
needs true cause = None
needs false cause = Some cause

-- the first check that fails
abbrev pub first_failing : {A : Type 0} → List (Option A) → Option A
first_failing [] = None
first_failing (None ∷ checks) = first_failing checks
first_failing (Some failure ∷ checks) = Some failure

-- what a check says, at a position
abbrev pub fault_at : ℕ → Option Cause → Option Fault
fault_at pos check = option_map (λ cause. cause pos) check
