-- A log of the program is one that opening finds no fault of.
use Rattle.std.proofs.Common.{◌≡◌, ◌∙◌, ℕ, ◌+◌, List, ◌∷◌, drop, Option, Some, None, sym, subst, ap}
use Rattle.std.specs.Prelude.{option_map}
use Rattle.std.proofs.lemmas.Option.{none-some, same_Some}
use Rattle.blog_event.specs.declared.log.Log.{Log}
use Rattle.blog_event.specs.Event.{Event, event_of, event_at, event_size}
use Rattle.blog_event.specs.File.{read}
use Rattle.blog_event.specs.code.Going.{IsLeft}
use Rattle.blog_event.specs.Fault.{fault_at}
use Rattle.blog_event.specs.Opening.{opening_fault}
use Rattle.blog_event.specs.code.LogView.{log_bytes}
use Rattle.blog_event.proofs.Openings.{opening-format}
use Rattle.blog_event.proofs.Going.{opened-reads-on}

pub log-opened : (log : Log) → opening_fault (log_bytes log) ≡ None
log-opened log = opening-format (log_bytes log) (event_of log.format) log.short log.mark log.stands ∙ ap (fault_at 4) log.accepted

-- where the second event begins
first-ends : (found : Option Event) (at : ℕ) (first : Event) → found ≡ Some first → option_map (λ e. 4 + event_size e) found ≡ Some at → 4 + event_size first ≡ at
first-ends None at first is ends = absurd (none-some first is)
first-ends (Some e) at first is ends = ap (λ (e : Event). 4 + event_size e) (sym (same_Some e first is)) ∙ same_Some (4 + event_size e) at ends

-- the events that are read of a log, and those that are left where its second event begins
pub record LogReads (bytes : List ℕ) (stop : Option ℕ) (at : ℕ) : Type 0 where
  pub first : Event
  pub later : List Event
  pub stands : event_at (drop 4 bytes) ≡ Some first
  pub starts : 4 + event_size first ≡ at
  pub read_is : read bytes stop ≡ first ∷ later
  pub left : IsLeft bytes stop at later

-- by what the program knows of that position
pub log-reads : (log : Log) (stop : Option ℕ) (at : ℕ) → option_map (λ e. 4 + event_size e) (event_at (drop 4 (log_bytes log))) ≡ Some at
    → LogReads (log_bytes log) stop at
log-reads log stop at ends =
    let on = opened-reads-on (log_bytes log) stop (log-opened log) in
    let starts = first-ends (event_at (drop 4 (log_bytes log))) at on.first on.stands ends in
    record {
      first = on.first;
      later = on.later;
      stands = on.stands;
      starts = starts;
      read_is = on.read_is;
      left = subst (λ (at : ℕ). IsLeft (log_bytes log) stop at on.later) starts on.left;
    }
