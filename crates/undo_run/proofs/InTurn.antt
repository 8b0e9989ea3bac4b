-- Later logs, each of which is looked at in its turn.
use Rattle.std.proofs.Common.{◌≡◌, ℕ, Bool, true, List, [], ◌∷◌, ◌++◌, length, map, Ok, Err, Option, Some, refl, sym, ap, ap₂, subst, ◌∙◌, ◌+◌, arith, append_assoc, append-nil, inl, inr}
use Rattle.std.specs.Prelude.{filter, slice_get}
use Rattle.std.proofs.lemmas.List.{map-append}
use Rattle.std.proofs.lemmas.List.Concat.{flat_map-append}
use Rattle.blog_choice.specs.Choice.{Choice}
use Rattle.blog_later.specs.Later.{changes_in, later_units, touches_in}
use Rattle.blog_later.specs.Prints.{Left, takes_left}
use Rattle.blog_trans.specs.Changes.{Change}
use Rattle.list_run.proofs.Going.{read-more}
use Rattle.list_run.specs.Listed.{AreRead, NamedLog}
use Rattle.blog_device.specs.Watched.{device_of}
use Rattle.blog_device.specs.declared.fault.RunFault.TheVariants as run
use Rattle.blog_source.specs.Found.{found_of}
use Rattle.blog_source.specs.Handed.{handed_log}
use Rattle.blog_source.specs.Laws.{whole_reading}
use Rattle.blog_source.specs.code.SourceView.{end_of, fault_of, log_of}
use Rattle.blog_source.specs.declared.reading.Reading.{Reading}
use Rattle.blog_source.specs.declared.source.Source.{Source}
use Rattle.blog_sum.specs.declared.fault.SumFault.{SumFault}
use Rattle.list_run.specs.declared.given.GivenLog.{GivenLog}
use Rattle.undo_run.specs.After.{Later, later_changes, touches}
use Rattle.undo_run.specs.Several.{one_name}
use Rattle.undo_run.specs.Taken.{FailsToOpen, whole_log}
use Rattle.undo_run.proofs.Counted.{touches-more}
use Rattle.undo_run.specs.code.Leaves.{Records}
use Rattle.undo_run.specs.code.SinceView.{AreSeen, later_of}
use Rattle.undo_run.specs.code.Tracks.{Tracks}
use Rattle.undo_run.specs.declared.tracked.Tracked.{Tracked}
use Rattle.undo_run.proofs.Tracking.{tracks-more, tracks-none}
use Rattle.undo_run.specs.code.Steps.{IsSource, LooksInto, LooksOn, OpensLog}
use Rattle.undo_run.specs.declared.fault.OpeningFault.{OpeningFault}
use Rattle.undo_run.specs.declared.fault.OpeningFault.TheVariants as opening
use Rattle.undo_run.specs.declared.fault.PartFault.{PartFault}
use Rattle.undo_run.specs.declared.fault.PartFault.TheVariants.{Run, Sums, NoEventAt, NoUnitAt, NoUnitWithGtid, Log, NothingSelected, LaterLog, ChangedSince, UnknownSince, Unmerged, TooLong, NoSchema}
use Rattle.undo_run.specs.declared.since.Since as told

-- ---- what is recorded of them

records-none : {B : Type 0} (asked : Bool) (kept : Left) (old : Tracked B) → Records asked kept old old []
records-none asked kept old is = tracks-none kept.rows old

records-more : {B : Type 0} (asked : Bool) (kept : Left) (old now new : Tracked B) (ls ks : List Later) → Records asked kept old now ls → Records asked kept now new ks → Records asked kept old new (ls ++ ks)
records-more asked kept old now new ls ks before more is =
    subst (λ (cs : List Change). Tracks kept.rows cs old new) (sym (flat_map-append (λ (l : Later). changes_in l.handed l.units) ls ks))
    (tracks-more kept.rows (later_changes ls) (later_changes ks) old now new (before is) (more is))

-- of one
pub records-one : {B : Type 0} (asked : Bool) (kept : Left) (old new : Tracked B) (l : Later) → (asked ≡ true → Tracks kept.rows (changes_in l.handed l.units) old new) → Records asked kept old new (l ∷ [])
records-one asked kept old new l tracks is = subst (λ (cs : List Change). Tracks kept.rows cs old new) (sym (append-nil (changes_in l.handed l.units))) (tracks is)

-- ---- those so far

-- they were read, and this was seen of them, after others, and recorded
pub record AreGoing {A B R : Type 0} (known : R → Option (List ℕ)) (givens : List (GivenLog R)) (kept : Left) (choice : Choice) (m : ℕ) (ls : List Later) (asked : Bool) (old new : Tracked B) (since : told.Since A) : Type 0 where
  pub logs : List NamedLog
  pub read : AreRead known givens logs
  pub seen : AreSeen (m + touches kept (map whole_log logs)) choice (ls ++ map whole_log logs) since
  pub recorded : Records asked kept old new (map whole_log logs)

pub none-gone : {A B R : Type 0} (known : R → Option (List ℕ)) (kept : Left) (choice : Choice) (m : ℕ) (ls : List Later) (asked : Bool) (old : Tracked B) (since : told.Since A) → AreSeen m choice ls since
    → AreGoing known [] kept choice m ls asked old old since
none-gone known kept choice m ls asked old since are =
    let none : m ≡ m + 0 = omega arith in record {
      logs = [];
      read = tt;
      seen = subst (λ (n : ℕ). AreSeen n choice (ls ++ []) since) none (subst (λ (ks : List Later). AreSeen m choice ks since) (sym (append-nil ls)) are);
      recorded = records-none asked kept old;
    }

pub goes-on : (A : Type 0) {B R : Type 0} (known : R → Option (List ℕ)) (givens : List (GivenLog R)) (given : GivenLog R) (n : ℕ) (kept : Left) (choice : Choice) (m : ℕ) (ls : List Later) (asked : Bool) (none had has : Tracked B) (old new : told.Since A)
    → (g : AreGoing known givens kept choice m ls asked none had old) → LooksInto {A = A} known n given kept choice (m + touches kept (map whole_log g.logs)) (ls ++ map whole_log g.logs) (Records asked kept had has) (Ok new)
    → AreGoing known (givens ++ given ∷ []) kept choice m ls asked none has new
goes-on A known givens given n kept choice m ls asked none had has old new g (log, is, are, more_recorded) =
    let all = map-append whole_log g.logs (log ∷ []) in
    let more = touches-more kept (map whole_log g.logs) (whole_log log ∷ []) in
    let joined = ap (touches kept) all in
    let sum : (m + touches kept (map whole_log g.logs)) + touches kept (whole_log log ∷ []) ≡ m + touches kept (map whole_log (g.logs ++ log ∷ [])) = omega (arith, more, joined) in
    record {
      logs = g.logs ++ log ∷ [];
      read = read-more known givens g.logs given log g.read is;
      seen = subst (λ (k : ℕ). AreSeen k choice (ls ++ map whole_log (g.logs ++ log ∷ [])) new) sum
          (subst (λ (ks : List Later). AreSeen ((m + touches kept (map whole_log g.logs)) + touches kept (whole_log log ∷ [])) choice ks new)
          (append_assoc ls (map whole_log g.logs) (whole_log log ∷ []) ∙ ap (λ (ks : List Later). ls ++ ks) (sym all)) are);
      recorded = subst (λ (ks : List Later). Records asked kept none has ks) (sym all) (records-more asked kept none had has (map whole_log g.logs) (whole_log log ∷ []) g.recorded more_recorded);
    }

pub all-gone : (A : Type 0) {B R : Type 0} (known : R → Option (List ℕ)) (givens all : List (GivenLog R)) (kept : Left) (choice : Choice) (m : ℕ) (ls : List Later) (asked : Bool) (old new : Tracked B) (since : told.Since A) → givens ≡ all
    → AreGoing known givens kept choice m ls asked old new since → LooksOn {A = A} known all kept choice m ls (Records asked kept old new) (Ok since)
all-gone A known givens all kept choice m ls asked old new since is g = (g.logs, subst (λ (gs : List (GivenLog _)). AreRead known gs g.logs) is g.read, g.seen, g.recorded)

given-at : {X : Type 0} (xs ys : List X) (x : X) → slice_get (xs ++ x ∷ ys) (length xs) ≡ Some x
given-at [] ys x = refl
given-at (z ∷ xs) ys x = given-at xs ys x

pub stops : {A R : Type 0} (known : R → Option (List ℕ)) (givens rest all : List (GivenLog R)) (given : GivenLog R) (n : ℕ) (kept : Left) (choice : Choice) (m k : ℕ) (ls ks : List Later) (One All : List Later → Type 0) (cause : PartFault A)
    → givens ++ given ∷ rest ≡ all → n ≡ length givens → LooksInto known n given kept choice k ks One (Err cause) → LooksOn known all kept choice m ls All (Err cause)
stops known givens rest all given n kept choice m k ls ks One All (LaterLog l f) split number (same, fails) =
    (given, ap (slice_get all) (same ∙ number) ∙ ap (λ (gs : List (GivenLog _)). slice_get gs (length givens)) (sym split) ∙ given-at givens rest given, fails)
stops known givens rest all given n kept choice m k ls ks One All (Run (run.Log f)) split number is = is
stops known givens rest all given n kept choice m k ls ks One All (Run run.Read) split number is = absurd is
stops known givens rest all given n kept choice m k ls ks One All (Run run.Write) split number is = absurd is
stops known givens rest all given n kept choice m k ls ks One All (Sums f) split number is = absurd is
stops known givens rest all given n kept choice m k ls ks One All (NoEventAt pos) split number is = absurd is
stops known givens rest all given n kept choice m k ls ks One All (NoUnitAt place) split number is = absurd is
stops known givens rest all given n kept choice m k ls ks One All (NoUnitWithGtid gtid) split number is = absurd is
stops known givens rest all given n kept choice m k ls ks One All (Log f) split number is = absurd is
stops known givens rest all given n kept choice m k ls ks One All NothingSelected split number is = absurd is
stops known givens rest all given n kept choice m k ls ks One All (ChangedSince rows lines) split number is = absurd is
stops known givens rest all given n kept choice m k ls ks One All (UnknownSince lines) split number is = absurd is
stops known givens rest all given n kept choice m k ls ks One All TooLong split number is = absurd is
stops known givens rest all given n kept choice m k ls ks One All (NoSchema text) split number is = absurd is
stops known givens rest all given n kept choice m k ls ks One All (Unmerged lines) split number is = absurd is

-- ---- one more log

-- one that can't be opened
pub not-opened : (A : Type 0) {R : Type 0} (known : R → Option (List ℕ)) (given : GivenLog R) (how : Reading) (left : Option (List ℕ)) (fault : OpeningFault)
    → OpensLog {A = A} how (known (device_of given.reader)) left (Err fault) → FailsToOpen known given fault
not-opened A known given how left (opening.Run run.Read) may = tt
not-opened A known given how left (opening.Run run.Write) none = absurd none
not-opened A known given how left (opening.Run (run.Log f)) (inl is) = inl is
not-opened A known given how left (opening.Run (run.Log f)) (inr (is, long)) = inr (is, (left, long))
not-opened A known given how left (opening.Sums f) (bytes, reads, refused) = (bytes, (left, reads), refused)

-- of one that is opened all is looked at
later-whole : {A : Type 0} (name bytes : List ℕ) (source : Source A) → IsSource whole_reading bytes source → later_of (one_name name) source (later_units (log_of source) 0) ≡ whole_log (record { name = name; bytes = bytes })
later-whole name bytes source is =
    ap (λ (handed : List ℕ). record { names = one_name name; handed = handed; units = later_units handed 0; end = end_of source; fault = fault_of source }) is.log
    ∙ ap (λ (end : ℕ). record { names = one_name name; handed = handed_log whole_reading bytes; units = later_units (handed_log whole_reading bytes) 0; end = end; fault = fault_of source }) is.end
    ∙ ap (λ (fault : Option SumFault). record { names = one_name name; handed = handed_log whole_reading bytes; units = later_units (handed_log whole_reading bytes) 0; end = (found_of whole_reading bytes).end; fault = fault }) is.fault

pub one-looked : (A : Type 0) {R S : Type 0} (known : R → Option (List ℕ)) (n : ℕ) (given : GivenLog R) (kept : Left) (choice : Choice) (m : ℕ) (ls : List Later) (Also : List Later → Type 0) (left : Option (List ℕ)) (source : Source S) (since : told.Since A)
    → OpensLog whole_reading (known (device_of given.reader)) left (Ok source)
    → AreSeen (m + touches_in kept (log_of source) (later_units (log_of source) 0)) choice (ls ++ later_of (one_name given.name.now) source (later_units (log_of source) 0) ∷ []) since
    → Also (later_of (one_name given.name.now) source (later_units (log_of source) 0) ∷ []) → LooksInto {A = A} known n given kept choice m ls Also (Ok since)
one-looked A known n given kept choice m ls Also left source since (bytes, reads, is) are also =
    let log : NamedLog = record { name = given.name.now; bytes = bytes } in
    let same = later-whole given.name.now bytes source is in
    let alone : touches_in kept (log_of source) (later_units (log_of source) 0) ≡ touches kept (later_of (one_name given.name.now) source (later_units (log_of source) 0) ∷ []) =
    ap (λ (cs : List Change). length (filter (takes_left kept) cs)) (sym (append-nil (changes_in (log_of source) (later_units (log_of source) 0)))) in (
      log,
      (refl, (left, reads)),
      subst (λ (l : Later). AreSeen (m + touches kept (l ∷ [])) choice (ls ++ l ∷ []) since) same
          (subst (λ (k : ℕ). AreSeen (m + k) choice (ls ++ later_of (one_name given.name.now) source (later_units (log_of source) 0) ∷ []) since) alone are),
      subst (λ (l : Later). Also (l ∷ [])) same also,
    )
