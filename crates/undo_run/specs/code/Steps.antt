-- What comes of opening logs for a part, of looking at what came later, and of writing what is taken.
use Rattle.std.specs.Prelude.{◌≡◌, ◌⊎◌, ℕ, ◌+◌, ◌<◌, Bool, true, false, List, ◌∷◌, [], ◌++◌, length, map, Option, Some, None, Vec, Result, Ok, Err}
use Rattle.std.specs.Io.KnownBytes.{Appends, Keeps}
use Rattle.blog_choice.specs.Choice.{Choice}
use Rattle.blog_device.specs.Devices.{AppendsBeginning, ReadsLog}
use Rattle.blog_device.specs.declared.fault.RunFault.TheVariants as run
use Rattle.blog_event.specs.Opening.{opening_fault}
use Rattle.blog_event.specs.declared.fault.Fault.{Fault}
use Rattle.blog_event.specs.declared.fault.Fault.TheVariants.{OutOfMemory}
use Rattle.blog_gathered.specs.code.GatheredView.{IsGathered, range_of}
use Rattle.blog_gathered.specs.declared.gathered.Gathered.{Gathered}
use Rattle.blog_later.specs.Among.{Step, touches_among}
use Rattle.blog_later.specs.Prints.{Left}
use Rattle.blog_later.specs.code.Counted.{at_most}
use Rattle.blog_later.specs.code.LeavingView.{HasLeft}
use Rattle.blog_request.specs.Ids.{Ids}
use Rattle.blog_run.specs.Writing.{CanBeWritten, end_of_text, lacks, text_of}
use Rattle.blog_run.specs.declared.writing.Writing.{Writing}
use Rattle.blog_source.specs.Appended.{format_time}
use Rattle.blog_source.specs.Found.{found_of, source_refusal}
use Rattle.blog_source.specs.Handed.{handed_log}
use Rattle.blog_source.specs.code.SourceView.{end_of, fault_of, log_of, time_of}
use Rattle.blog_source.specs.declared.reading.Reading.{Reading}
use Rattle.blog_source.specs.declared.source.Source.{Source}
use Rattle.blog_sum.specs.declared.fault.SumFault.{SumFault}
use Rattle.blog_trans.specs.Acceptance.{IsRefusal, fault}
use Rattle.blog_trans.specs.Changes.{Change, changes, counts_of}
use Rattle.blog_trans.specs.Groups.{groups}
use Rattle.blog_trans.specs.Selection.{Selection, all}
use Rattle.blog_trans.specs.code.IndexView.{index_bytes, index_selection}
use Rattle.blog_trans.specs.declared.groups.Index.{Index}
use Rattle.blog_units.specs.Units.{Facts, range_of_unit}
use Rattle.list_run.specs.Listed.{AreRead, IsRead, NamedLog}
use Rattle.list_run.specs.declared.given.GivenLog.{GivenLog}
use Rattle.undo_run.specs.After.{AreChanged, Later, MayBeChanged, is_damaged, later_step, touches, unknown_units}
use Rattle.undo_run.specs.Parts.{IsPlaced, is_at_end}
use Rattle.undo_run.specs.Reports.{Since, report}
use Rattle.undo_run.specs.Several.{Names}
use Rattle.undo_run.specs.Taken.{FailsLater, FailsToOpen, IsSafe, OfLater, Taken, after, since_told, steps_after, tables_taken, whole_log}
use Rattle.undo_run.specs.Units.{AreSound, AreThere, IsMissing, IsWithout, LacksUnit, RefusesChosen, are_found, IsUnitAccepted, chosen_range, chosen_units, have_units, is_chosen, kept_log, units_of_part}
use Rattle.undo_run.specs.Writes.{FailsFirst}
use Rattle.undo_run.specs.code.SinceView.{AreSeen, since_seen}
use Rattle.undo_run.specs.declared.chosen.Chosen.{Chosen}
use Rattle.undo_run.specs.declared.fault.OpeningFault.{OpeningFault}
use Rattle.undo_run.specs.declared.fault.OpeningFault.TheVariants as opening
use Rattle.undo_run.specs.declared.fault.PartFault.{PartFault}
use Rattle.undo_run.specs.declared.fault.PartFault.TheVariants.{Run, Sums, Log, LaterLog, ChangedSince, UnknownSince, Unmerged, TooLong, NoSchema}
use Rattle.undo_run.specs.declared.request.Among.{Among}
use Rattle.undo_run.specs.declared.request.UnitRequest.{UnitRequest}
use Rattle.undo_run.specs.declared.since.Since as told

-- ---- opening a log

-- these bytes were read, and opened as this source; what it hands out opens as a log
pub record IsSource {A : Type 0} (how : Reading) (bytes : List ℕ) (source : Source A) : Type 0 where
  pub sound : source_refusal bytes ≡ None
  pub log : log_of source ≡ handed_log how bytes
  pub end : end_of source ≡ (found_of how bytes).end
  pub fault : fault_of source ≡ (found_of how bytes).fault
  pub time : time_of source ≡ format_time (handed_log how bytes)
  pub opens : opening_fault (log_of source) ≡ None

abbrev pub OpensLog : {A : Type 0} → Reading → Option (List ℕ) → Option (List ℕ) → Result (Source A) OpeningFault → Type 0
OpensLog how old new (Ok source) = (bytes : List ℕ) × ReadsLog old new bytes × IsSource how bytes source
OpensLog how old new (Err fault) = FailsFirst old new fault

-- the answer is that a read failed
abbrev pub is_failed_opening : {X : Type 0} → Result X OpeningFault → Bool
is_failed_opening (Err (opening.Run run.Read)) = true
is_failed_opening _ = false

-- ---- looking at what came later

-- This was seen of one more log, which was read, and something else holds of it; or it isn't opened, or memory was refused.
abbrev pub LooksInto : {A R : Type 0} → (R → Option (List ℕ)) → ℕ → GivenLog R → Left → Choice → ℕ → List Later → (List Later → Type 0) → Result (told.Since A) (PartFault A) → Type 0
LooksInto known n given kept choice m ls Also (Ok since) = (log : NamedLog) × IsRead known given log × AreSeen (m + touches kept (whole_log log ∷ [])) choice (ls ++ whole_log log ∷ []) since × Also (whole_log log ∷ [])
LooksInto known n given kept choice m ls Also (Err (LaterLog k f)) = (k ≡ n) × FailsToOpen known given f
LooksInto known n given kept choice m ls Also (Err (Run (run.Log f))) = f ≡ OutOfMemory
LooksInto known n given kept choice m ls Also (Err cause) = ⊥

-- of several
abbrev pub LooksOn : {A R : Type 0} → (R → Option (List ℕ)) → List (GivenLog R) → Left → Choice → ℕ → List Later → (List Later → Type 0) → Result (told.Since A) (PartFault A) → Type 0
LooksOn known givens kept choice m ls Also (Ok since) = (logs : List NamedLog) × AreRead known givens logs × AreSeen (m + touches kept (map whole_log logs)) choice (ls ++ map whole_log logs) since × Also (map whole_log logs)
LooksOn known givens kept choice m ls Also (Err (LaterLog n f)) = FailsLater known givens n f
LooksOn known givens kept choice m ls Also (Err (Run (run.Log f))) = f ≡ OutOfMemory
LooksOn known givens kept choice m ls Also (Err cause) = ⊥

-- what was seen touches nothing; or it does, or may
abbrev pub Judges : {A : Type 0} → ℕ → Choice → List Later → Result (told.Since A) (PartFault A) → Type 0
Judges m choice ls (Ok since) = (m ≡ 0) × (unknown_units choice ls ≡ []) × (is_damaged ls ≡ false)
Judges m choice ls (Err (ChangedSince rows lines)) = (rows ≡ at_most m) × (0 < m)
Judges m choice ls (Err (UnknownSince lines)) = (m ≡ 0) × ((0 < length (unknown_units choice ls)) ⊎ (is_damaged ls ≡ true))
Judges m choice ls (Err (Run (run.Log f))) = f ≡ OutOfMemory
Judges m choice ls (Err cause) = ⊥

-- so many changes of steps take a row that was left before, and as many more of later logs do as take one by these fingerprints
abbrev pub CountsOn : Left → ℕ → List Step → Type 0
CountsOn kept m ss = (ls : List Later) → m + touches kept ls ≡ touches_among (ss ++ map later_step ls)

-- what comes of looking at what came after what is taken
abbrev pub LooksAt : {A R : Type 0} → (R → Option (List ℕ)) → List (GivenLog R) → Taken → Result (told.Since A) (PartFault A) → Type 0
LooksAt known givens t (Ok since) = OfLater true known givens (λ logs. IsSafe t logs × (Some (since_seen since) ≡ since_told true t logs))
LooksAt known givens t (Err (ChangedSince rows lines)) = OfLater true known givens (λ logs. AreChanged (steps_after t logs) rows)
LooksAt known givens t (Err (UnknownSince lines)) = OfLater true known givens (λ logs. MayBeChanged (steps_after t logs) (tables_taken t) (after t logs))
LooksAt known givens t (Err (LaterLog n f)) = FailsLater known givens n f
LooksAt known givens t (Err (Run (run.Log f))) = f ≡ OutOfMemory
LooksAt known givens t (Err cause) = ⊥

-- the same where it is asked for
abbrev pub Looks : {A R : Type 0} → Bool → (R → Option (List ℕ)) → List (GivenLog R) → Taken → Result (Option (told.Since A)) (PartFault A) → Type 0
Looks {A = A} true known givens t (Ok (Some since)) = LooksAt {A = A} known givens t (Ok since)
Looks true known givens t (Ok None) = ⊥
Looks true known givens t (Err cause) = LooksAt known givens t (Err cause)
Looks false known givens t (Ok since) = since ≡ None
Looks false known givens t (Err cause) = ⊥

-- ---- choosing units

-- the changes of each of these units
abbrev pub chosen_changes : Selection → List ℕ → List Facts → List (List Change)
chosen_changes sel handed us = map (λ u. changes handed (range_of_unit sel u)) us

-- their groups are gathered, if there are any
abbrev pub IsKept : {A : Type 0} → Selection → List ℕ → List Facts → Option (Gathered A) → Type 0
IsKept sel handed us None = us ≡ []
IsKept sel handed us (Some gathered) = (u : Facts) × (vs : List Facts) × (us ≡ u ∷ vs) × IsGathered (chosen_range sel handed u) (map (chosen_range sel handed) us) gathered

-- and the rows that they left, if that is asked
pub record HasChosen {A : Type 0} (looks : Bool) (sel : Selection) (handed : List ℕ) (us : List Facts) (chosen : Chosen A) : Type 0 where
  pub kept : IsKept sel handed us chosen.gathered
  pub left : looks ≡ true → HasLeft (chosen_changes sel handed us) chosen.leaving

-- what comes of adding the groups of one more, which is accepted
abbrev pub Gathers : {A : Type 0} → Selection → List ℕ → List Facts → Result (Gathered A) (PartFault A) → Type 0
Gathers sel handed us (Ok gathered) = IsKept sel handed us (Some gathered)
Gathers sel handed us (Err (Run (run.Log f))) = f ≡ OutOfMemory
Gathers sel handed us (Err TooLong) = 4294967295 < length (kept_log sel handed us)
Gathers sel handed us (Err cause) = ⊥

abbrev pub Adds : {A : Type 0} → Bool → Selection → List ℕ → List Facts → Result (Chosen A) (PartFault A) → Type 0
Adds looks sel handed us (Ok chosen) = HasChosen looks sel handed us chosen
Adds looks sel handed us (Err (Run (run.Log f))) = f ≡ OutOfMemory
Adds looks sel handed us (Err TooLong) = 4294967295 < length (kept_log sel handed us)
Adds looks sel handed us (Err cause) = ⊥

-- why a unit is refused that has a fault, or for which memory was refused
abbrev pub RefusesFor : {A : Type 0} → List ℕ → ℕ → Option SumFault → Fault → PartFault A → Type 0
RefusesFor handed end damage inner (Sums f) = (damage ≡ Some f) × (is_at_end handed inner ≡ true)
RefusesFor handed end damage inner (Log f) = ((damage ≡ None) ⊎ (is_at_end handed inner ≡ false)) × IsPlaced handed end inner f
RefusesFor handed end damage inner cause = ⊥

-- which units of what is handed out are chosen
abbrev pub chosen_by : Among → Selection → List ℕ → Facts → Bool
chosen_by among sel handed = is_chosen among.wanted among.at.now sel handed

-- what comes of asking for the groups of a unit: it is chosen, and accepted, and has them; or it isn't chosen; or it is refused
abbrev pub HandsGroups : {A : Type 0} → (Facts → Bool) → Selection → List ℕ → ℕ → Option SumFault → Facts → Result (Option (Index A)) (PartFault A) → Type 0
HandsGroups p sel handed end damage u (Ok (Some index)) = (p u ≡ true) × IsUnitAccepted sel handed u × (range_of index ≡ chosen_range sel handed u)
HandsGroups p sel handed end damage u (Ok None) = p u ≡ false
HandsGroups p sel handed end damage u (Err (Run (run.Log f))) = f ≡ OutOfMemory
HandsGroups p sel handed end damage u (Err cause) = (p u ≡ true) × ((inner : Fault) × IsRefusal (fault handed (range_of_unit sel u)) inner × RefusesFor handed end damage inner cause)

-- what comes of choosing units
abbrev pub Chooses : {A : Type 0} → Bool → (Facts → Bool) → Selection → List ℕ → ℕ → Option SumFault → Result (Chosen A × Vec Bool A) (PartFault A) → Type 0
Chooses looks p sel handed end damage (Ok both) = (damage ≡ None) × HasChosen looks sel handed (chosen_units p sel handed) both.0 × (both.1.items ≡ map p (units_of_part sel handed))
Chooses looks p sel handed end damage (Err (Run (run.Log f))) = f ≡ OutOfMemory
Chooses looks p sel handed end damage (Err cause) = RefusesChosen p sel handed end damage cause

-- what comes of looking for an asked place that no unit has, or for asked ids
abbrev pub FindsNone : List ℕ → Selection → List ℕ → ℕ → Option ℕ → Type 0
FindsNone asked sel handed end None = have_units asked sel handed end ≡ true
FindsNone asked sel handed end (Some place) = IsWithout asked sel handed end place

abbrev pub FindsMissing : List Ids → Selection → List ℕ → Option ℕ → Type 0
FindsMissing asked sel handed None = are_found asked sel handed ≡ true
FindsMissing asked sel handed (Some n) = IsMissing asked sel handed n

abbrev pub LacksUnits : {A : Type 0} → UnitRequest → Selection → List ℕ → ℕ → Option SumFault → Option (PartFault A) → Type 0
LacksUnits r sel handed end damage None = AreThere r sel handed end
LacksUnits r sel handed end damage (Some cause) = LacksUnit r sel handed end damage cause

-- what comes of indexing their groups
abbrev pub Indexes : {A : Type 0} → (Facts → Bool) → Selection → List ℕ → ℕ → Result (Index A) (PartFault A) → Type 0
Indexes p sel handed end (Ok index) = AreSound p sel handed None × (index_bytes index ≡ kept_log sel handed (chosen_units p sel handed)) × (index_selection index ≡ all)
Indexes p sel handed end (Err cause) = RefusesChosen p sel handed end None cause

-- ---- writing it

-- groups of a log are written, and this is told; or a beginning; or nothing
abbrev pub WritesGroups : {A : Type 0} → Writing → List ℕ → List ℕ → Selection → Option (List ℕ) → Option (List ℕ) → Result (Vec ℕ A) (PartFault A) → Type 0
WritesGroups w telling log sel had has (Ok told) = CanBeWritten w.sql w.order w.limit log sel × Appends had has (text_of w.sql w.order w.limit log sel) × (told.items ≡ telling)
WritesGroups w telling log sel had has (Err (Run run.Write)) = CanBeWritten w.sql w.order w.limit log sel × AppendsBeginning had has (text_of w.sql w.order w.limit log sel)
WritesGroups w telling log sel had has (Err (Run (run.Log f))) = (f ≡ OutOfMemory) × Keeps had has
WritesGroups w telling log sel had has (Err TooLong) = (4294967295 < end_of_text w.sql w.order w.limit log sel) × Keeps had has
WritesGroups w telling log sel had has (Err (NoSchema text)) = ((n : ℕ) × (lacks w.sql (groups log sel) ≡ Some n)) × Keeps had has
WritesGroups w telling log sel had has (Err cause) = ⊥

-- the report is told
abbrev pub report_told : Writing → Names → Option Since → List ℕ → Selection → List ℕ
report_told w names since log sel = report w.order names (length (groups log sel)) (counts_of (groups log sel)) since

abbrev pub WritesIndex : {A : Type 0} → Writing → Names → Option Since → List ℕ → Selection → Option (List ℕ) → Option (List ℕ) → Result (Vec ℕ A) (PartFault A) → Type 0
WritesIndex w names since log sel had has result = WritesGroups w (report_told w names since log sel) log sel had has result
