-- Opening a log: which of the checks of a file decides, from the first on.
use Rattle.std.proofs.Common.{◌≡◌, ℕ, ◌^◌, ◌<◌, Bool, true, false, List, [], ◌∷◌, length, take, drop, bytes_eq, Option, Some, None, refl, sym, ap, ◌∙◌}
use Rattle.std.specs.Prelude.{nat_lt, is_some}
use Rattle.std.specs.Option.{option_map_or}
use Rattle.std.proofs.lemmas.Bool.{lt-ltb, ltb-true}
use Rattle.std.proofs.lemmas.Option.{none-some}
use Rattle.std.proofs.lemmas.Slice.Eq.{bytes_eq-Decides}
use Rattle.blog_event.specs.declared.fault.Fault.{Fault}
use Rattle.blog_event.specs.declared.fault.Fault.TheVariants.{NotABinlog, CutEvent, TooLong}
use Rattle.blog_event.specs.Event.{Event, event_at}
use Rattle.blog_event.specs.Fault.{Cause, needs, first_failing, fault_at}
use Rattle.blog_event.specs.File.{magic}
use Rattle.blog_event.specs.Format.{description_fault, format_fault}
use Rattle.blog_event.specs.Opening.{opening_by, opening_fault, front_fault, IsLog, OpensLogs}

-- ---- as far as the event behind the magic number, with any check of it

-- a check that is the last of all decides
last-decides : (check : Option Fault) → first_failing (check ∷ []) ≡ check
last-decides None = refl
last-decides (Some fault) = refl

-- what the check says of the event behind the magic number
pub opening-checked : (check : Event → Option Cause) (bytes : List ℕ) (e : Event) → length bytes < 2 ^ 32 → bytes_eq (take 4 bytes) magic ≡ true
    → event_at (drop 4 bytes) ≡ Some e → opening_by check bytes ≡ fault_at 4 (check e)
opening-checked check bytes e few mark found =
    let short : nat_lt (length bytes) (2 ^ 32) ≡ true = lt-ltb (length bytes) (2 ^ 32) few in
    rw (short, mark, found) (last-decides (fault_at 4 (check e)))

-- ---- with the checks of the format

pub opening-format : (bytes : List ℕ) (e : Event) → length bytes < 2 ^ 32 → bytes_eq (take 4 bytes) magic ≡ true → event_at (drop 4 bytes) ≡ Some e
    → opening_fault bytes ≡ fault_at 4 (format_fault e)
unfolding opening_fault
opening-format bytes e few mark found = opening-checked format_fault bytes e few mark found

pub front-format : (bytes : List ℕ) (e : Event) → length bytes < 2 ^ 32 → bytes_eq (take 4 bytes) magic ≡ true → event_at (drop 4 bytes) ≡ Some e
    → front_fault bytes ≡ fault_at 4 (description_fault e)
unfolding front_fault
front-format bytes e few mark found = opening-checked description_fault bytes e few mark found

-- ---- what a log is that was opened

-- two checks of a list that finds no fault
none-failing : {A : Type 0} (check : Option A) (checks : List (Option A)) → first_failing (check ∷ checks) ≡ None → (check ≡ None) × (first_failing checks ≡ None)
none-failing None checks none = (refl, none)
none-failing (Some failure) checks none = absurd (none-some failure (sym none))

-- a check that finds no fault
pub none-at : (pos : ℕ) (test : Bool) (cause : Cause) → fault_at pos (needs test cause) ≡ None → test ≡ true
none-at pos true cause none = refl
none-at pos false cause none = absurd (none-some (cause pos) (sym none))

-- the same of a check that names its cause
none-caused : (pos : ℕ) (check : Option Cause) → fault_at pos check ≡ None → check ≡ None
none-caused pos None none = refl
none-caused pos (Some cause) none = absurd (none-some (cause pos) (sym none))

-- bytes with an event behind the mark of which the check says nothing
pub record IsChecked (check : Event → Option Cause) (bytes : List ℕ) (first : Event) : Type 0 where
  pub short : length bytes < 2 ^ 32
  pub mark : take 4 bytes ≡ magic
  pub stands : event_at (drop 4 bytes) ≡ Some first
  pub accepted : check first ≡ None

-- the event that is there
first-there : (check : Event → Option Cause) (bytes : List ℕ) (found : Option Event) → event_at (drop 4 bytes) ≡ found → length bytes < 2 ^ 32 → take 4 bytes ≡ magic
    → is_some found ≡ true → option_map_or check found None ≡ None → (first : Event) × IsChecked check bytes first
first-there check bytes None stands short mark some accepted = absurd (cc)
first-there check bytes (Some e) stands short mark some accepted = (e, record { short = short; mark = mark; stands = stands; accepted = accepted })

-- bytes that were opened have the parts of a log
opened-checked : (check : Event → Option Cause) (bytes : List ℕ) → opening_by check bytes ≡ None → (first : Event) × IsChecked check bytes first
opened-checked check bytes opened =
    let first : Option Event = event_at (drop 4 bytes) in
    let one = none-failing _ _ opened in
    let two = none-failing _ _ one.1 in
    let three = none-failing _ _ two.1 in
    let four = none-failing _ _ three.1 in
    first-there check bytes first refl (ltb-true (length bytes) (2 ^ 32) (none-at 0 _ TooLong one.0))
    ((bytes_eq-Decides (take 4 bytes) magic).0 (none-at 0 _ NotABinlog two.0)) (none-at 4 _ CutEvent three.0) (none-caused 4 _ four.0)

pub opened-log : (bytes : List ℕ) → opening_fault bytes ≡ None → (first : Event) × IsLog bytes first
unfolding opening_fault
opened-log bytes opened =
    let log = opened-checked format_fault bytes opened in
    let parts = log.1 in
    (log.0, record { short = parts.short; mark = parts.mark; stands = parts.stands; accepted = parts.accepted })

-- the same whatever the algorithm is
pub opened-front : (bytes : List ℕ) → front_fault bytes ≡ None → (first : Event) × IsChecked description_fault bytes first
unfolding front_fault
opened-front bytes opened = opened-checked description_fault bytes opened

-- and bytes that have them are opened
pub opens-log : (bytes : List ℕ) (first : Event) → IsLog bytes first → opening_fault bytes ≡ None
opens-log bytes first log =
    opening-format bytes first log.short ((bytes_eq-Decides (take 4 bytes) magic).1 log.mark) log.stands ∙ ap (fault_at 4) log.accepted

pub opens_logs : (bytes : List ℕ) → OpensLogs bytes
opens_logs bytes = record { opened = opened-log bytes; opens = opens-log bytes }
