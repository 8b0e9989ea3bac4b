-- The front of a log, as it was and as it is handed out.
use Rattle.std.specs.Prelude.{◌≡◌, ℕ, ◌+◌, ◌≤◌, ◌<◌, ◌^◌, List, ◌++◌, length, take, drop, Some, None}
use Rattle.blog_event.specs.Event.{Event, event_at, event_size, event_text}
use Rattle.blog_event.specs.File.{magic}
use Rattle.blog_event.specs.Opening.{front_fault}
use Rattle.blog_sum.specs.Sums.{has_sums}
use Rattle.blog_source.specs.declared.front.Front.{Front}
use Rattle.blog_source.specs.Handed.{handed_format}

-- what is known of a front that was read
pub record IsFront (front : Front) (bytes : List ℕ) : Type 0 where
  pub format : Event
  pub opened : front_fault bytes ≡ None
  pub short : length bytes < 2 ^ 32
  pub mark : take 4 bytes ≡ magic
  pub stands : event_at (drop 4 bytes) ≡ Some format
  pub long : 57 ≤ length format.body
  pub sums : front.sums ≡ has_sums bytes
  pub first : front.first ≡ 4 + event_size format
  pub within : front.first ≤ length bytes
  pub text : take front.first bytes ≡ magic ++ event_text format

-- and of one that says then that there are no sums, of the bytes as they were and as they are
pub record HasFront (front : Front) (old new : List ℕ) : Type 0 where
  pub is : IsFront front old
  pub text : take front.first new ≡ magic ++ event_text (handed_format front.sums is.format)
  pub behind : drop front.first new ≡ drop front.first old
  pub len : length new ≡ length old
