-- Going through a log for an event that is later than a time, or that isn't at its front alone.
use Rattle.std.proofs.Common.{◌≡◌, ℕ, ◌+◌, Bool, true, false, List, drop, length, Some, None, refl, sym, ap, ◌∙◌}
use Rattle.std.specs.Prelude.{◌&&◌, ◌||◌}
use Rattle.std.specs.List.{list_all, list_any}
use Rattle.blog_event.specs.Event.{Event, event_at, event_size}
use Rattle.blog_event.specs.File.{events_from}
use Rattle.blog_event.proofs.Items.{events-left-more, events-left-none}
use Rattle.blog_source.specs.Appended.{is_of_log, is_own_by}

-- the events that are left are those of a server, and none is later
abbrev pub left_by : List ℕ → ℕ → ℕ → ℕ → Bool
left_by log server time at = list_all (is_own_by server time) (events_from (length log) None at (drop at log))

-- none is left
pub by-none : (log : List ℕ) (server time at : ℕ) → event_at (drop at log) ≡ None → left_by log server time at ≡ true
by-none log server time at none = ap (list_all (is_own_by server time)) (events-left-none log at none)

-- one is such an event, and those behind it are left
pub by-more : (log : List ℕ) (server time at size : ℕ) (e : Event) → event_at (drop at log) ≡ Some e → size ≡ event_size e → is_own_by server time e ≡ true
    → left_by log server time at ≡ left_by log server time (at + size)
by-more log server time at size e stands is own =
    ap (list_all (is_own_by server time)) (events-left-more log at e stands) ∙ ap (λ b. b && list_all (is_own_by server time) (events_from (length log) None (at + event_size e) (drop (at + event_size e) log))) own
    ∙ ap (λ (size : ℕ). left_by log server time (at + size)) (sym is)

-- or it isn't
pub by-other : (log : List ℕ) (server time at : ℕ) (e : Event) → event_at (drop at log) ≡ Some e → is_own_by server time e ≡ false → left_by log server time at ≡ false
by-other log server time at e stands other =
    ap (list_all (is_own_by server time)) (events-left-more log at e stands) ∙ ap (λ b. b && list_all (is_own_by server time) (events_from (length log) None (at + event_size e) (drop (at + event_size e) log))) other

-- ---- events of the log

abbrev pub left_of_log : List ℕ → ℕ → Bool
left_of_log log at = list_any is_of_log (events_from (length log) None at (drop at log))

pub of-none : (log : List ℕ) (at : ℕ) → event_at (drop at log) ≡ None → left_of_log log at ≡ false
of-none log at none = ap (list_any is_of_log) (events-left-none log at none)

pub of-more : (log : List ℕ) (at size : ℕ) (e : Event) → event_at (drop at log) ≡ Some e → size ≡ event_size e → is_of_log e ≡ false → left_of_log log at ≡ left_of_log log (at + size)
of-more log at size e stands is front =
    ap (list_any is_of_log) (events-left-more log at e stands) ∙ ap (λ b. b || list_any is_of_log (events_from (length log) None (at + event_size e) (drop (at + event_size e) log))) front ∙ ap (λ (size : ℕ). left_of_log log (at + size)) (sym is)

pub of-found : (log : List ℕ) (at : ℕ) (e : Event) → event_at (drop at log) ≡ Some e → is_of_log e ≡ true → left_of_log log at ≡ true
of-found log at e stands found = ap (list_any is_of_log) (events-left-more log at e stands) ∙ ap (λ b. b || list_any is_of_log (events_from (length log) None (at + event_size e) (drop (at + event_size e) log))) found
