-- What comes of looking at what came later, by what was seen of all of it.
use Rattle.std.proofs.Common.{◌≡◌, ◌⊎◌, ℕ, ◌+◌, ◌<◌, true, false, length, List, [], ◌∷◌, map, Option, Some, Result, Ok, Err, sym, ap, subst, ◌∙◌}
use Rattle.std.specs.Prelude.{IfOk, slice_get}
use Rattle.blog_choice.specs.Choice.{Choice}
use Rattle.blog_device.specs.declared.fault.RunFault.TheVariants as run
use Rattle.blog_later.proofs.Among.{prints-among-suffice}
use Rattle.blog_later.specs.Among.{Step, marked_in, touches_among}
use Rattle.blog_later.specs.Prints.{Left}
use Rattle.blog_later.specs.code.Counted.{at_most}
use Rattle.blog_undo.proofs.TakingBack.{takes-back}
use Rattle.list_run.specs.Listed.{NamedLog}
use Rattle.list_run.specs.declared.given.GivenLog.{GivenLog}
use Rattle.undo_run.specs.After.{AreSafe, Later, is_damaged, places_apart, touches, unknown_units}
use Rattle.undo_run.specs.Taken.{Taken, after, since_told, steps_after, tables_taken, whole_log}
use Rattle.undo_run.specs.code.SinceView.{AreSeen, since_seen}
use Rattle.undo_run.specs.code.Steps.{CountsOn, Judges, LooksAt, LooksOn}
use Rattle.undo_run.specs.declared.fault.PartFault.{PartFault}
use Rattle.undo_run.specs.declared.fault.PartFault.TheVariants.{Run, Sums, NoEventAt, NoUnitAt, NoUnitWithGtid, Log, NothingSelected, LaterLog, ChangedSince, UnknownSince, Unmerged, TooLong, NoSchema}
use Rattle.undo_run.specs.declared.since.Since as told

-- a later log isn't opened, or memory was refused
pub not-looked : {A R : Type 0} (known : R → Option (List ℕ)) (givens : List (GivenLog R)) (t : Taken) (kept : Left) (choice : Choice) (m : ℕ) (ls : List Later) (Also : List Later → Type 0) (cause : PartFault A)
    → LooksOn known givens kept choice m ls Also (Err cause) → LooksAt known givens t (Err cause)
not-looked known givens t kept choice m ls Also (LaterLog n f) fails = fails
not-looked known givens t kept choice m ls Also (Run (run.Log f)) is = is
not-looked known givens t kept choice m ls Also (Run run.Read) none = absurd none
not-looked known givens t kept choice m ls Also (Run run.Write) none = absurd none
not-looked known givens t kept choice m ls Also (Sums f) none = absurd none
not-looked known givens t kept choice m ls Also (NoEventAt pos) none = absurd none
not-looked known givens t kept choice m ls Also (NoUnitAt place) none = absurd none
not-looked known givens t kept choice m ls Also (NoUnitWithGtid gtid) none = absurd none
not-looked known givens t kept choice m ls Also (Log f) none = absurd none
not-looked known givens t kept choice m ls Also NothingSelected none = absurd none
not-looked known givens t kept choice m ls Also (ChangedSince rows lines) none = absurd none
not-looked known givens t kept choice m ls Also (UnknownSince lines) none = absurd none
not-looked known givens t kept choice m ls Also TooLong none = absurd none
not-looked known givens t kept choice m ls Also (NoSchema text) none = absurd none
not-looked known givens t kept choice m ls Also (Unmerged lines) none = absurd none

-- what is told is what was seen
pub told-since : {A : Type 0} (t : Taken) (logs : List NamedLog) (n : ℕ) (choice : Choice) (all : told.Since A) → choice ≡ tables_taken t → AreSeen n choice (after t logs) all
    → Some (since_seen all) ≡ since_told true t logs
told-since t logs n choice all named are =
    let apart = are.apart ∙ ap (λ (c : Choice). at_most (length (places_apart c (after t logs)))) named in
    let first = are.first ∙ ap (λ (c : Choice). slice_get (places_apart c (after t logs)) 0) named in
    (λ i. Some (record { units = are.units i; end = are.end i; next = are.next i; apart = apart i; first = first i }))

-- where no change takes a row that was left before, nothing touches what is taken
are-safe : (ss : List Step) (choice tables : Choice) (ls : List Later) (n : ℕ) → n ≡ touches_among ss → choice ≡ tables → n ≡ 0 → unknown_units choice ls ≡ [] → is_damaged ls ≡ false → AreSafe ss tables ls
are-safe ss choice tables ls n counted named none known whole =
    let untouched = prints-among-suffice ss (sym counted ∙ none) in record {
      untouched = untouched;
      taken_back = λ before after applied. takes-back (marked_in ss) before after untouched applied;
      known = subst (λ (c : Choice). unknown_units c ls ≡ []) named known;
      whole = whole;
    }

pub all-judged : {A R : Type 0} (known : R → Option (List ℕ)) (givens : List (GivenLog R)) (t : Taken) (kept : Left) (choice : Choice) (m : ℕ) (Also : List Later → Type 0) (all : told.Since A) (r : Result (told.Since A) (PartFault A))
    → choice ≡ tables_taken t → CountsOn kept m t.steps → LooksOn {A = A} known givens kept choice m (t.rest ∷ []) Also (Ok all)
    → ((n : ℕ) (ls : List Later) → AreSeen n choice ls all → Judges n choice ls r) → IfOk r (λ since. since ≡ all) → LooksAt known givens t r
all-judged known givens t kept choice m Also all (Ok since) named counts (logs, read, seen, also) judges is =
    let n = m + touches kept (map whole_log logs) in
    let (none, unknown, whole) = judges n (after t logs) seen in (
      logs,
      read,
      (
        are-safe (steps_after t logs) choice (tables_taken t) (after t logs) n (counts (map whole_log logs)) named none unknown whole,
        ap (λ (s : told.Since _). Some (since_seen s)) is ∙ told-since t logs n choice all named seen,
      ),
    )
all-judged known givens t kept choice m Also all (Err (ChangedSince rows lines)) named counts (logs, read, seen, also) judges is =
    let (rows_are, some) = judges (m + touches kept (map whole_log logs)) (after t logs) seen in
    (logs, read, (rows_are ∙ ap at_most (counts (map whole_log logs)), subst (λ (n : ℕ). 0 < n) (counts (map whole_log logs)) some))
all-judged known givens t kept choice m Also all (Err (UnknownSince lines)) named counts (logs, read, seen, also) judges is =
    let (none, may) = judges (m + touches kept (map whole_log logs)) (after t logs) seen in
    (logs, read, (sym (counts (map whole_log logs)) ∙ none, subst (λ (c : Choice). (0 < length (unknown_units c (after t logs))) ⊎ (is_damaged (after t logs) ≡ true)) named may))
all-judged known givens t kept choice m Also all (Err (Run (run.Log f))) named counts (logs, read, seen, also) judges is = judges (m + touches kept (map whole_log logs)) (after t logs) seen
all-judged known givens t kept choice m Also all (Err (Run run.Read)) named counts (logs, read, seen, also) judges is = absurd (judges (m + touches kept (map whole_log logs)) (after t logs) seen)
all-judged known givens t kept choice m Also all (Err (Run run.Write)) named counts (logs, read, seen, also) judges is = absurd (judges (m + touches kept (map whole_log logs)) (after t logs) seen)
all-judged known givens t kept choice m Also all (Err (LaterLog n f)) named counts (logs, read, seen, also) judges is = absurd (judges (m + touches kept (map whole_log logs)) (after t logs) seen)
all-judged known givens t kept choice m Also all (Err (Sums f)) named counts (logs, read, seen, also) judges is = absurd (judges (m + touches kept (map whole_log logs)) (after t logs) seen)
all-judged known givens t kept choice m Also all (Err (NoEventAt pos)) named counts (logs, read, seen, also) judges is = absurd (judges (m + touches kept (map whole_log logs)) (after t logs) seen)
all-judged known givens t kept choice m Also all (Err (NoUnitAt place)) named counts (logs, read, seen, also) judges is = absurd (judges (m + touches kept (map whole_log logs)) (after t logs) seen)
all-judged known givens t kept choice m Also all (Err (NoUnitWithGtid gtid)) named counts (logs, read, seen, also) judges is = absurd (judges (m + touches kept (map whole_log logs)) (after t logs) seen)
all-judged known givens t kept choice m Also all (Err (Log f)) named counts (logs, read, seen, also) judges is = absurd (judges (m + touches kept (map whole_log logs)) (after t logs) seen)
all-judged known givens t kept choice m Also all (Err NothingSelected) named counts (logs, read, seen, also) judges is = absurd (judges (m + touches kept (map whole_log logs)) (after t logs) seen)
all-judged known givens t kept choice m Also all (Err TooLong) named counts (logs, read, seen, also) judges is = absurd (judges (m + touches kept (map whole_log logs)) (after t logs) seen)
all-judged known givens t kept choice m Also all (Err (NoSchema text)) named counts (logs, read, seen, also) judges is = absurd (judges (m + touches kept (map whole_log logs)) (after t logs) seen)
all-judged known givens t kept choice m Also all (Err (Unmerged lines)) named counts (logs, read, seen, also) judges is = absurd (judges (m + touches kept (map whole_log logs)) (after t logs) seen)
