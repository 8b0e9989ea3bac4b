-- What a contract sees of what follows an event of groups.
use Rattle.std.specs.Prelude.{◌≡◌, ℕ, ◌≤◌, Bool, List, length, drop, Option, option_map, Result, Ok, Err}
use Rattle.blog_event.specs.declared.event.Event as told
use Rattle.blog_event.specs.Event.{Event, event_of, unplaced}
use Rattle.blog_trans.specs.code.InTurn.{GroupEvent}
use Rattle.blog_left_out.specs.code.InTurn.{held_after, marks_after, written_for}
use Rattle.blog_left_out.specs.code.PutView.{IsPut, Refuses}
use Rattle.blog_left_out.specs.declared.fault.LeaveOutFault.{LeaveOutFault}
use Rattle.blog_left_out.specs.declared.writing.Step.{Step}

-- the event that is held
abbrev pub held_value : Option told.Event → Option Event
held_value held = option_map (λ event. unplaced (event_of event)) held

-- what is written for an event of groups is appended
pub record IsStep (ms : List Bool) (held : Option Event) (e : GroupEvent) (old new : List ℕ) (step : Step) : Type 0 where
  pub put : IsPut old (written_for ms held e) new
  pub held_is : held_value step.held ≡ held_after ms held e
  pub left : drop step.used ms ≡ marks_after ms e
  pub within : step.used ≤ length ms

abbrev pub Steps : List Bool → Option Event → GroupEvent → List ℕ → List ℕ → Result Step LeaveOutFault → Type 0
Steps ms held e old new (Ok step) = IsStep ms held e old new step
Steps ms held e old new (Err fault) = Refuses old (written_for ms held e) fault
