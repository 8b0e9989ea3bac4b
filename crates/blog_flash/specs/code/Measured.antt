-- How long a log is of which the front and the events behind it are known, and how large its largest event is.
use Rattle.std.specs.Prelude.{◌≡◌, ℕ, ◌+◌, ◌<◌, ◌≤◌, List, Option, Some, None}
use Rattle.std.specs.List.{AllByRecursion}
use Rattle.blog_event.specs.Event.{Event, event_size}
use Rattle.blog_event.specs.File.{end_of}
use Rattle.blog_flash.specs.declared.log_sizes.LogSizes.{LogSizes}

-- an event with a body of so many bytes is added
pub record IsLonger (before : LogSizes) (body : ℕ) (after : LogSizes) : Type 0 where
  pub len : after.len ≡ before.len + (19 + body)
  pub short : after.len ≤ 4294967295
  pub largest : before.largest ≤ after.largest
  pub fits : 19 + body ≤ after.largest

-- where it may be
abbrev pub GetsLonger : LogSizes → ℕ → Option LogSizes → Type 0
GetsLonger before body None = 4294967295 < before.len + (19 + body)
GetsLonger before body (Some after) = IsLonger before body after

-- a log of so many bytes, with these events behind it, is so long, and none of them is larger
pub record HasSizes (pos : ℕ) (es : List Event) (sizes : LogSizes) : Type 0 where
  pub len : sizes.len ≡ end_of pos es
  pub short : sizes.len ≤ 4294967295
  pub each : AllByRecursion (λ e. event_size e ≤ sizes.largest) es

-- or is too long
abbrev pub Measures : ℕ → List Event → Option LogSizes → Type 0
Measures pos es (Some sizes) = HasSizes pos es sizes
Measures pos es None = 4294967295 < end_of pos es

-- events behind so many bytes end where a log may end, and none of them is larger than the largest of these sizes
pub record AreWithin (pos : ℕ) (es : List Event) (sizes : LogSizes) : Type 0 where
  pub short : end_of pos es ≤ 4294967295
  pub each : AllByRecursion (λ e. event_size e ≤ sizes.largest) es
