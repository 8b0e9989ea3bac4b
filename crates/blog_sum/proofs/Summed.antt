-- A log in which no fault is found, and its format description once it says that there are no sums.
use Rattle.std.proofs.Common.{◌≡◌, ℕ, ◌-◌, ◌^◌, ◌≤◌, ◌<◌, Bool, true, false, List, [], ◌∷◌, ◌++◌, length, take, drop, Option, Some, None, refl, sym, ap, ◌∙◌, arith}
use Rattle.std.specs.Prelude.{◌==◌, if◌then◌else◌, map, nat_le, option_map}
use Rattle.std.proofs.lemmas.Bool.{le-leb, leb-true}
use Rattle.std.proofs.lemmas.Bool.Decides.{nat_tests}
use Rattle.std.proofs.lemmas.Option.{none-some}
use borrow.Author.Tests.{eqb-true}
use Rattle.blog_event.specs.declared.fault.Fault.{Fault}
use Rattle.blog_event.specs.declared.fault.Fault.TheVariants.{CutEvent}
use Rattle.blog_event.specs.Event.{Event, event_size, event_text, IsEvent, event_at}
use Rattle.blog_event.specs.Fault.{first_failing, fault_at}
use Rattle.blog_event.specs.File.{magic, placed_from, end_of, read}
use Rattle.blog_event.specs.Format.{algorithm, description_fault, format_fault}
use Rattle.blog_event.specs.Opening.{front_fault}
use Rattle.blog_event.proofs.FormatCode.{format-by-algorithm}
use Rattle.blog_event.proofs.Openings.{opened-front}
use Rattle.blog_sum.specs.declared.fault.SumFault.{SumFault}
use Rattle.blog_sum.specs.declared.fault.SumFault.TheVariants.{Log, UnknownAlgorithm}
use Rattle.blog_sum.specs.Crc.{crc32_of}
use Rattle.blog_sum.specs.Sums.{unless, sum_check, summed, not_in_use, algorithm_of, has_sums, sum_fault}
use Rattle.blog_sum.specs.Plain.{format_with, plain_format}
use Rattle.blog_sum.proofs.Texts.{format-size}

-- ---- checks of which none fails

pub none-first : {A : Type 0} (check : Option A) (checks : List (Option A)) → first_failing (check ∷ checks) ≡ None → (check ≡ None) × (first_failing checks ≡ None)
none-first None checks none = (refl, none)
none-first (Some failure) checks none = absurd (none-some failure (sym none))

none-last : {A : Type 0} (checks : List (Option A)) (last : Option A) → first_failing (checks ++ last ∷ []) ≡ None → last ≡ None
none-last [] last none = (none-first last [] none).0
none-last (check ∷ checks) last none = none-last checks last (none-first check (checks ++ last ∷ []) none).1

pub none-unless : (test : Bool) (fault : SumFault) → unless test fault ≡ None → test ≡ true
none-unless true fault none = refl
none-unless false fault none = absurd (none-some fault (sym none))

pub none-front : (front : Option Fault) → option_map Log front ≡ None → front ≡ None
none-front None none = refl
none-front (Some fault) none = absurd (none-some (Log fault) (sym none))

-- ---- a log in which no fault is found

-- what is known of it
pub record IsSummed (bytes : List ℕ) : Type 0 where
  pub front : front_fault bytes ≡ None
  pub known : algorithm_of bytes ≤ 1
  pub format : Event
  pub short : length bytes < 2 ^ 32
  pub mark : take 4 bytes ≡ magic
  pub stands : event_at (drop 4 bytes) ≡ Some format
  pub accepted : description_fault format ≡ None
  pub whole : end_of 4 (read bytes None) ≡ length bytes

pub is-summed : (bytes : List ℕ) → sum_fault bytes ≡ None → IsSummed bytes
unfolding sum_fault
is-summed bytes fine =
    let end : ℕ = end_of 4 (read bytes None) in
    let sums : List (Option SumFault) = if has_sums bytes then map sum_check (placed_from 4 (summed (read bytes None))) else [] in
    let whole : Option SumFault = unless (end == length bytes) (Log (CutEvent end)) in
    let known : Option SumFault = unless (nat_le (algorithm_of bytes) 1) (UnknownAlgorithm 4) in
    let one = none-first (option_map Log (front_fault bytes)) (known ∷ (sums ++ whole ∷ [])) fine in
    let two = none-first known (sums ++ whole ∷ []) one.1 in
    let last = none-last sums whole two.1 in
    let front = none-front (front_fault bytes) one.0 in
    let log = opened-front bytes front in
    record {
      front = front;
      known = leb-true (algorithm_of bytes) 1 (none-unless (nat_le (algorithm_of bytes) 1) (UnknownAlgorithm 4) two.0);
      format = log.0;
      short = log.1.short;
      mark = log.1.mark;
      stands = log.1.stands;
      accepted = log.1.accepted;
      whole = eqb-true (end_of 4 (read bytes None)) (length bytes) (none-unless (end == length bytes) (Log (CutEvent end)) last);
    }

-- its algorithm is that of its format description
pub summed-algorithm : (bytes : List ℕ) (format : Event) → event_at (drop 4 bytes) ≡ Some format → algorithm_of bytes ≡ algorithm format.body
summed-algorithm bytes format stands = rw stands refl

-- and a log of which this is known has no fault, if it has no sums
pub no-fault : (bytes : List ℕ) → front_fault bytes ≡ None → algorithm_of bytes ≡ 0 → end_of 4 (read bytes None) ≡ length bytes → sum_fault bytes ≡ None
unfolding sum_fault
no-fault bytes front none whole =
    let known : nat_le (algorithm_of bytes) 1 ≡ true = le-leb (algorithm_of bytes) 1 (omega arith) in
    let unsummed : (algorithm_of bytes == 1) ≡ false = grind (arith, nat_tests) in
    let test : (end_of 4 (read bytes None) == length bytes) ≡ true = grind (arith, nat_tests) in
    rw (front, known, unsummed, test) refl

-- ---- the format description of a log without sums

-- it is an event
pub format-event : (format : Event) → 5 ≤ length format.body → IsEvent format → IsEvent (plain_format format)
format-event format room event =
    let size = format-size (crc32_of (take (event_size format - 4) (event_text (not_in_use (format_with 0 format))))) format room in
    let fits = event.size in
    record {
      timestamp = event.timestamp;
      kind = event.kind;
      server_id = event.server_id;
      size = omega arith;
      log_pos = event.log_pos;
      flags = event.flags;
    }

-- it is accepted
pub format-accepted : (format : Event) → description_fault format ≡ None → algorithm format.body ≡ 0 → format_fault format ≡ None
format-accepted format accepted none = format-by-algorithm format (ap (fault_at 4) accepted) ∙ (rw none refl)
