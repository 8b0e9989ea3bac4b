-- Going through a log by a loop: the events that are left to be read, and the events that were found so far.
use Rattle.std.specs.Prelude.{◌≡◌, ℕ, ◌+◌, ◌<◌, ◌≤◌, ◌⊎◌, true, false, List, [], ◌∷◌, ◌++◌, length, take, drop, Option, Some, None}
use Rattle.blog_event.specs.Event.{Event, event_size, event_at}
use Rattle.blog_event.specs.File.{magic, end_of, is_below, IsFront, read}

-- nothing is read at a position: it isn't below the stop, or no event stands there
abbrev pub EndsAt : List ℕ → Option ℕ → ℕ → Type 0
EndsAt bytes stop at = (is_below at stop ≡ false) ⊎ (event_at (drop at bytes) ≡ None)

-- the events that are read from a position on: each stands where the one before ends, below the stop, and then nothing is read
abbrev pub AreRead : List ℕ → Option ℕ → ℕ → List Event → Type 0
AreRead bytes stop at [] = EndsAt bytes stop at
AreRead bytes stop at (e ∷ es) = (is_below at stop ≡ true) × (event_at (drop at bytes) ≡ Some e) × AreRead bytes stop (at + event_size e) es

-- the events that are left are there, and no others
pub record IsLeft (bytes : List ℕ) (stop : Option ℕ) (at : ℕ) (es : List Event) : Type 0 where
  pub are : AreRead bytes stop at es
  pub only : (others : List Event) → AreRead bytes stop at others → others ≡ es
  pub within : at ≤ length bytes → end_of at es ≤ length bytes

-- what is read: the first event, and the events that are left behind it
pub record ReadsOn (bytes : List ℕ) (stop : Option ℕ) : Type 0 where
  pub first : Event
  pub later : List Event
  pub read_is : read bytes stop ≡ first ∷ later
  pub stands : event_at (drop 4 bytes) ≡ Some first
  pub left : IsLeft bytes stop (4 + event_size first) later
  pub inside : end_of 4 (first ∷ later) ≤ length bytes

-- the fronts of a file: the first event is one, each event behind a front makes a longer one, and where nothing is read
-- behind a front it is what is read
pub record FrontsGrow (bytes : List ℕ) (stop : Option ℕ) : Type 0 where
  pub first : (e : Event) → take 4 bytes ≡ magic → event_at (drop 4 bytes) ≡ Some e → IsFront bytes stop (e ∷ [])
  pub longer : (es : List Event) (e : Event) → 0 < length es → IsFront bytes stop es → is_below (end_of 4 es) stop ≡ true
      → event_at (drop (end_of 4 es) bytes) ≡ Some e → IsFront bytes stop (es ++ e ∷ [])
  pub whole : (es : List Event) → 0 < length es → IsFront bytes stop es → EndsAt bytes stop (end_of 4 es) → es ≡ read bytes stop
