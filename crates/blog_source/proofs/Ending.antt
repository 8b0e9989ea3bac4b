-- Events that say where they end.
use Rattle.std.proofs.Common.{◌≡◌, ℕ, ◌+◌, List, [], ◌∷◌, ◌++◌, refl, ap}
use Rattle.blog_event.specs.Event.{Event, event_size}
use Rattle.blog_event.specs.File.{end_of}
use Rattle.blog_sum.specs.Plain.{ended_from}

pub ended-append : (pos : ℕ) (es more : List Event) → ended_from pos (es ++ more) ≡ ended_from pos es ++ ended_from (end_of pos es) more
ended-append pos [] more = refl
ended-append pos (e ∷ es) more = ap (λ (later : List Event). record e { log_pos = pos + event_size e } ∷ later) (ended-append (pos + event_size e) es more)
