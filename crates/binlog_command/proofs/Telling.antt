-- What is told of a part that is written.
use Rattle.std.proofs.Common.{◌≡◌, ℕ, Bool, true, List, Option, Ok}
use Rattle.std.specs.Prelude.{Vec}
use Rattle.blog_run.specs.declared.writing.Writing.{Writing}
use Rattle.blog_trans.specs.Selection.{Selection}
use Rattle.list_run.specs.declared.given.GivenLog.{GivenLog}
use Rattle.undo_run.specs.Parts.{reading_of}
use Rattle.undo_run.specs.Several.{Joined, part_among, starts_in_first}
use Rattle.undo_run.specs.Taken.{OfLater}
use Rattle.undo_run.specs.Writes.{IsSoundIn, IsToldBy, ReportsPart, WritesJoined, WritesPart, plan_in}
use Rattle.undo_run.specs.declared.request.UnitRequest.{UnitRequest}
use Rattle.undo_run.proofs.Joining.{of-logs}

-- of logs that were read
abbrev Reported : {R : Type 0} → Bool → (R → Option (List ℕ)) → List (GivenLog R) → Writing → Selection → Option UnitRequest → List ℕ → Joined → Type 0
Reported looks known later w part asked told j =
    let inside = part_among j.names part in
    (starts_in_first j.names.more part.start ≡ true) × IsSoundIn looks asked inside j.handed j.end j.fault
    × ((log : List ℕ) × OfLater looks known later (λ logs. IsToldBy w (plan_in looks w asked j.names inside j.handed j.end j.fault log) logs told))

-- and they are written
abbrev Written : {A R : Type 0} → Bool → (R → Option (List ℕ)) → List (GivenLog R) → Writing → Selection → Option UnitRequest → Option (List ℕ) → Option (List ℕ) → Vec ℕ A → Joined → Type 0
Written {A = A} looks known later w part asked had has told j = (starts_in_first j.names.more part.start ≡ true) × WritesJoined {A = A} looks known later w part asked had has j (Ok told)

reported : {A R : Type 0} (looks : Bool) (known : R → Option (List ℕ)) (later : List (GivenLog R)) (w : Writing) (part : Selection) (asked : Option UnitRequest) (had has : Option (List ℕ)) (told : Vec ℕ A) (j : Joined)
    → Written looks known later w part asked had has told j → Reported looks known later w part asked told.items j
reported looks known later w part asked had has told j (starts, (log, (sound, (logs, read, (can, text, is))))) = (starts, sound, (log, (logs, read, (can, is))))

-- the report is that of the logs that were read
pub told-of : {A R : Type 0} (looks : Bool) (known : R → Option (List ℕ)) (later more : List (GivenLog R)) (w : Writing) (name : List ℕ) (part : Selection) (asked : Option UnitRequest) (old new had has : Option (List ℕ)) (told : Vec ℕ A)
    → WritesPart {A = A} looks known later w name more part asked old new had has (Ok told) → ReportsPart looks known later w name more part asked old new told.items
told-of looks known later more w name part asked old new had has told is =
    of-logs known (reading_of looks asked part).stop name more old new (Written looks known later w part asked had has told) (Reported looks known later w part asked told.items) is
    (reported looks known later w part asked had has told)
