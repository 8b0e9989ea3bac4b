-- What a contract sees of a log that was opened, and of an iterator over its events.
use Rattle.std.specs.Prelude.{◌≡◌, ℕ, ◌+◌, ◌-◌, ◌/◌, List, [], length, Option, IfSome, Result, IfOk}
use Rattle.std.specs.Option.{option_map_or}
use Rattle.std.specs.Iterator.{YieldsFirstBy}
use Rattle.blog_event.specs.declared.event.Event as told
use Rattle.blog_event.specs.declared.events.Events.{Events}
use Rattle.blog_event.specs.declared.fault.Fault.{Fault}
use Rattle.blog_event.specs.declared.log.Log.{Log}
use Rattle.blog_event.specs.Event.{event_of, event_size}
use Rattle.blog_event.specs.File.{Placed}
use Rattle.blog_event.specs.Items.{item_of, items_from}

-- the bytes of a log
abbrev pub log_bytes : Log → List ℕ
log_bytes log = log.bytes.now

-- the seed of its look-ups
abbrev pub log_seed : Log → ℕ
log_seed log = log.seed

-- the items that are left
abbrev pub items_left : Events → List (Result Placed Fault)
items_left events = option_map_or (items_from (log_bytes events.log)) events.at []

-- how many they are at most: one for each 19 bytes, and one more
abbrev pub most_left : Events → ℕ
most_left events = option_map_or (λ at. 1 + (length (log_bytes events.log) - at) / 19) events.at 0

-- a step gives the first item that is left, and none where none is; of an event its header has the size
pub record GivesItem (before : Events) (given : Option (Result told.Event Fault)) (after : Events) : Type 0 where
  pub first : YieldsFirstBy item_of items_left before given after
  pub size : IfSome given (λ item. IfOk item (λ e. e.header.size ≡ event_size (event_of e)))
