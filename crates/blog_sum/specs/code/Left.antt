-- The check of one event of a log, and the bytes of which a sum is taken.
use Rattle.std.specs.Prelude.{ℕ, ◌-◌, ◌%◌, List, ◌∷◌, ◌++◌, take, drop, slice_index, Option, Some}
use Rattle.std.specs.Option.{option_map_or}
use Rattle.blog_event.specs.declared.fault.Fault.TheVariants.{CutEvent}
use Rattle.blog_event.specs.Event.{event_at}
use Rattle.blog_sum.specs.declared.fault.SumFault.{SumFault}
use Rattle.blog_sum.specs.declared.fault.SumFault.TheVariants.{Log}
use Rattle.blog_sum.specs.Sums.{sum_check}

-- what is wrong with the event at a position, or that there is none
abbrev pub next_fault : List ℕ → ℕ → Option SumFault
next_fault bytes at = option_map_or (λ e. sum_check (record { pos = at; event = e })) (event_at (drop at bytes)) (Some (Log (CutEvent at)))

-- the front of an event's text with the flag for a log in use clear
abbrev pub flag_cleared : List ℕ → List ℕ
flag_cleared text = take 17 text ++ (slice_index text 17 - slice_index text 17 % 2) ∷ drop 18 text
