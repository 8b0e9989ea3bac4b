-- The list of several logs.
use Rattle.std.specs.Prelude.{◌≡◌, ◌⊎◌, ◌==◌, ◌+◌, ℕ, List, [], ◌∷◌, ◌++◌, Bool, true, false, ⊤, if◌then◌else◌, length, take, map, Option, Some, None, option_map, Result, Ok, Err}
use Rattle.jiff.specs.Types.{TimeZone}
use Rattle.blog_event.specs.declared.fault.Fault.TheVariants.{OutOfMemory}
use Rattle.blog_device.specs.Devices.{ReadsLog}
use Rattle.blog_device.specs.declared.fault.RunFault.TheVariants.{Log, Read, Write}
use Rattle.blog_device.specs.Watched.{device_of}
use Rattle.blog_list.specs.Lines.{LogList}
use Rattle.blog_list.specs.declared.listing.Form.{Form}
use Rattle.blog_list.specs.declared.listing.Sorting.{Sorting}
use Rattle.blog_list.specs.Lists.{list_end}
use Rattle.blog_list.specs.Shown.{last_whole, log_list}
use Rattle.blog_list.specs.Texts.{AppendsList, AppendsListBeginning}
use Rattle.blog_list.specs.code.Told.{inside}
use Rattle.blog_request.specs.declared.wanted.Wanted.{Wanted}
use Rattle.blog_source.specs.Found.{found_of, source_refusal}
use Rattle.blog_source.specs.Handed.{handed_log}
use Rattle.blog_source.specs.Places.{place_of, position_of}
use Rattle.blog_source.specs.declared.reading.Reading.{Reading}
use Rattle.blog_sum.specs.declared.fault.SumFault.{SumFault}
use Rattle.blog_units.specs.Units.{facts_of, units}
use Rattle.list_run.specs.declared.fault.ListFault.{ListFault}
use Rattle.list_run.specs.declared.fault.ListFault.TheVariants.{Run, Unread, EndsEarly}
use Rattle.list_run.specs.declared.given.GivenLog.{GivenLog}

-- a log that was read: its name and its bytes
pub record NamedLog : Type 0 where
  pub name : List ℕ
  pub bytes : List ℕ

-- Which logs are listed, and how: how each is read, what is wanted of them, how their units are sorted, each log's by themselves, and how many
-- logs they are.
pub record Listing : Type 0 where
  pub how : Reading
  pub wanted : Wanted
  pub sorting : Sorting
  pub count : ℕ

-- Their names are shown where they are several.
abbrev pub name_shown : ℕ → List ℕ → Option (List ℕ)
name_shown count name = if count == 1 then None else Some name

-- What is wanted of the n-th, counted from 0: the start is one of the first log, and the stop one of the last.
abbrev pub wanted_of : Listing → ℕ → Wanted
wanted_of l n = record l.wanted {
  start = if n == 0 then l.wanted.start else None;
  stop = if n + 1 == l.count then l.wanted.stop else None;
}

-- what is listed of the n-th
abbrev pub list_of : Listing → ℕ → NamedLog → LogList
list_of l n log =
    let handed = handed_log l.how log.bytes in
    let found = found_of l.how log.bytes in
    log_list (name_shown l.count log.name) l.sorting (inside handed (wanted_of l n)) handed (place_of handed found.end) found.damaged

-- why its list ends early
abbrev pub end_of : Listing → ℕ → NamedLog → Option SumFault
end_of l n log =
    let handed = handed_log l.how log.bytes in
    let found = found_of l.how log.bytes in
    let stop = (wanted_of l n).stop in
    list_end found.fault found.end stop (last_whole (option_map (position_of handed) stop) (map facts_of (units handed)))

-- what is listed of logs, of which the first is the n-th
abbrev pub lists_from : Listing → ℕ → List NamedLog → List LogList
lists_from l n [] = []
lists_from l n (log ∷ logs) = list_of l n log ∷ lists_from l (1 + n) logs

-- a fault of the n-th log, or else one of a later log
abbrev pub or_later : ℕ → Option SumFault → Option (ℕ × SumFault) → Option (ℕ × SumFault)
or_later n (Some fault) later = Some (n, fault)
or_later n None later = later

-- which list ends early first, by its number, and why
abbrev pub first_end_from : Listing → ℕ → List NamedLog → Option (ℕ × SumFault)
first_end_from l n [] = None
first_end_from l n (log ∷ logs) = or_later n (end_of l n log) (first_end_from l (1 + n) logs)

-- logs were read, by what their readers had
abbrev pub IsRead : {R : Type 0} → (R → Option (List ℕ)) → GivenLog R → NamedLog → Type 0
IsRead known given log = (given.name.now ≡ log.name) × ((left : Option (List ℕ)) × ReadsLog (known (device_of given.reader)) left log.bytes)

abbrev pub AreRead : {R : Type 0} → (R → Option (List ℕ)) → List (GivenLog R) → List NamedLog → Type 0
AreRead known [] [] = ⊤
AreRead known (given ∷ givens) (log ∷ logs) = IsRead known given log × AreRead known givens logs
AreRead known givens logs = ⊥

-- The first of the given logs were read, and a beginning of their list is written: up to the line of a unit, or nothing.
abbrev pub HasBegun : {R : Type 0} → (R → Option (List ℕ)) → Form → TimeZone → Bool → Listing → List (GivenLog R) → Option (List ℕ) → Option (List ℕ) → Type 0
HasBegun known form zone gtids l givens had has =
    (logs : List NamedLog) × AreRead known (take (length logs) givens) logs × AppendsListBeginning form zone gtids (lists_from l 0 logs) had has

-- All given logs were read, and their list is written. Of those that end early this is the first.
abbrev pub HasListed : {R : Type 0} → (R → Option (List ℕ)) → Form → TimeZone → Bool → Listing → List (GivenLog R) → Option (ℕ × SumFault) → Option (List ℕ) → Option (List ℕ) → Type 0
HasListed known form zone gtids l givens end had has =
    (logs : List NamedLog) × AreRead known givens logs × (first_end_from l 0 logs ≡ end) × AppendsList form zone gtids (lists_from l 0 logs) had has

-- nothing can be read of the n-th of the given logs, for this fault
abbrev pub IsUnread : {R : Type 0} → (R → Option (List ℕ)) → List (GivenLog R) → ℕ → SumFault → Type 0
IsUnread known givens n fault =
    (before later : List (GivenLog _)) × (given : GivenLog _) × (log : NamedLog) × (before ++ given ∷ later ≡ givens) × (length before ≡ n)
    × IsRead known given log × (source_refusal log.bytes ≡ Some fault)

-- what comes of listing given logs
abbrev pub ListsLogs : {R : Type 0} → (R → Option (List ℕ)) → Form → TimeZone → Bool → Listing → List (GivenLog R) → Option (List ℕ) → Option (List ℕ) → Result Unit (ℕ × ListFault) → Type 0
ListsLogs known form zone gtids l givens had has (Ok done) = HasListed known form zone gtids l givens None had has
ListsLogs known form zone gtids l givens had has (Err (n, EndsEarly fault)) = HasListed known form zone gtids l givens (Some (n, fault)) had has
ListsLogs known form zone gtids l givens had has (Err (n, Unread fault)) = IsUnread known givens n fault × HasBegun known form zone gtids l givens had has
ListsLogs known form zone gtids l givens had has (Err (n, Run fault)) = HasBegun known form zone gtids l givens had has

-- a part of a list, or all of it, may be written before this fault
abbrev pub MayFollow : ListFault → Type 0
MayFollow (Run (Log fault)) = fault ≡ OutOfMemory
MayFollow (Run Read) = ⊥
MayFollow (Run Write) = ⊤
MayFollow (Unread fault) = ⊥
MayFollow (EndsEarly fault) = ⊤

-- the answer is that a write failed
abbrev pub has_failed_write : {X : Type 0} → Result X (ℕ × ListFault) → Bool
has_failed_write (Err (n, Run Write)) = true
has_failed_write _ = false
