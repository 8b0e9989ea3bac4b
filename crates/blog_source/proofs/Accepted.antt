-- What is known of a server's log that is read: its front, and the events that are read of it.
use Rattle.std.proofs.Common.{◌≡◌, ℕ, ◌+◌, ◌^◌, ◌≤◌, ◌<◌, true, List, [], ◌∷◌, ◌++◌, length, take, drop, Option, Some, None, refl, sym, subst, ap, ◌∙◌, arith, length-append}
use Rattle.std.specs.Prelude.{if◌then◌else◌, nat_le, option_map}
use Rattle.std.specs.List.{AllByRecursion}
use Rattle.std.proofs.lemmas.Bool.{leb-true}
use Rattle.blog_event.specs.Event.{Event, event_size, event_at, IsEvent}
use Rattle.blog_event.specs.File.{AreBytes, BeginsWith, magic, file_text, end_of, events_from, read}
use Rattle.blog_event.specs.Format.{description_fault}
use Rattle.blog_event.specs.Opening.{front_fault}
use Rattle.blog_event.proofs.Framing.{read-front, texts-length}
use Rattle.blog_event.proofs.Openings.{opened-front}
use Rattle.blog_sum.specs.declared.fault.SumFault.{SumFault}
use Rattle.blog_sum.specs.declared.fault.SumFault.TheVariants.{Log, UnknownAlgorithm}
use Rattle.blog_sum.specs.Sums.{unless, sum_check, not_in_use, algorithm_of, has_sums}
use Rattle.blog_sum.proofs.Summed.{none-first, none-front, none-unless}
use Rattle.blog_source.specs.Found.{format_check, source_refusal}
use Rattle.blog_source.proofs.Opened.{read-is}

-- ---- its front

pub record IsAccepted (bytes : List ℕ) : Type 0 where
  pub front : front_fault bytes ≡ None
  pub known : algorithm_of bytes ≤ 1
  pub format : Event
  pub short : length bytes < 2 ^ 32
  pub mark : take 4 bytes ≡ magic
  pub stands : event_at (drop 4 bytes) ≡ Some format
  pub accepted : description_fault format ≡ None
  pub sum : has_sums bytes ≡ true → sum_check (record { pos = 4; event = not_in_use format }) ≡ None

-- the check of its format description, in a log with sums
format-checked : (bytes : List ℕ) (format : Event) → event_at (drop 4 bytes) ≡ Some format → has_sums bytes ≡ true
    → (if has_sums bytes then format_check (event_at (drop 4 bytes)) else None) ≡ sum_check (record { pos = 4; event = not_in_use format })
format-checked bytes format stands sums = rw (sums, stands) refl

pub is-accepted : (bytes : List ℕ) → source_refusal bytes ≡ None → IsAccepted bytes
unfolding source_refusal
is-accepted bytes fine =
    let known : Option SumFault = unless (nat_le (algorithm_of bytes) 1) (UnknownAlgorithm 4) in
    let sum : Option SumFault = if has_sums bytes then format_check (event_at (drop 4 bytes)) else None in
    let one = none-first (option_map Log (front_fault bytes)) (known ∷ sum ∷ []) fine in
    let two = none-first known (sum ∷ []) one.1 in
    let three = none-first sum [] two.1 in
    let front = none-front (front_fault bytes) one.0 in
    let log = opened-front bytes front in
    record {
      front = front;
      known = leb-true (algorithm_of bytes) 1 (none-unless (nat_le (algorithm_of bytes) 1) (UnknownAlgorithm 4) two.0);
      format = log.0;
      short = log.1.short;
      mark = log.1.mark;
      stands = log.1.stands;
      accepted = log.1.accepted;
      sum = λ sums. sym (format-checked bytes log.0 log.1.stands sums) ∙ three.0;
    }

-- ---- the events that are read of it

-- those behind the format description
abbrev pub later_of : (bytes : List ℕ) (stop : Option ℕ) → IsAccepted bytes → List Event
later_of bytes stop log = events_from (length bytes) stop (4 + event_size log.format) (drop (4 + event_size log.format) bytes)

pub record IsRead (bytes : List ℕ) (stop : Option ℕ) (log : IsAccepted bytes) : Type 0 where
  pub is : read bytes stop ≡ log.format ∷ later_of bytes stop log
  pub events : AllByRecursion IsEvent (log.format ∷ later_of bytes stop log)
  pub begins : BeginsWith bytes (file_text (log.format ∷ later_of bytes stop log))
  pub ends : end_of (4 + event_size log.format) (later_of bytes stop log) ≤ length bytes

-- events with which a log begins end where it does, or before
ends-within : (bytes : List ℕ) (es : List Event) → BeginsWith bytes (file_text es) → end_of 4 es ≤ length bytes
ends-within bytes es begins =
    let texts = texts-length 4 es in
    let whole : length bytes ≡ length (file_text es ++ begins.0) = ap length begins.1 in
    let parts = length-append (file_text es) begins.0 in
    omega arith

pub is-read : (bytes : List ℕ) (stop : Option ℕ) (log : IsAccepted bytes) → AreBytes bytes → IsRead bytes stop log
is-read bytes stop log are =
    let es : List Event = log.format ∷ later_of bytes stop log in
    let is : read bytes stop ≡ es = read-is bytes stop log.format log.mark log.stands in
    let front = read-front bytes stop are in
    let begins : BeginsWith bytes (file_text es) = subst (λ (es : List Event). BeginsWith bytes (file_text es)) is (front.file (omega (arith, ap length is))) in
    record {
      is = is;
      events = subst (λ (es : List Event). AllByRecursion IsEvent es) is front.events;
      begins = begins;
      ends = ends-within bytes es begins;
    }
