-- What is written for the events of groups in turn. The `BEGIN` of a transaction is held until one of its rows events stays.
use Rattle.std.specs.Prelude.{Bool, true, if◌then◌else◌, List, [], ◌∷◌, ◌++◌, length, drop, Option, Some, None, option_to_list}
use Rattle.blog_event.specs.Event.{Event}
use Rattle.blog_trans.specs.Changes.{changes_of_rows}
use Rattle.blog_trans.specs.Groups.{event_value, rows_value}
use Rattle.blog_trans.specs.code.InTurn.{GroupEvent, Begins, Maps, Changes, Ends}
use Rattle.blog_flash.specs.Texts.{rows_event}
use Rattle.blog_left_out.specs.LeftOut.{rows_kept, stays}

-- the events that are written for one
abbrev pub written_for : List Bool → Option Event → GroupEvent → List Event
written_for ms held (Begins event) = []
written_for ms held (Maps event) = []
written_for ms held (Changes rows last) =
    if stays ms (rows_value rows).content then option_to_list held ++ event_value rows.map ∷ rows_event true (rows_kept ms (rows_value rows)) ∷ [] else []
written_for ms None (Ends event) = event_value event ∷ []
written_for ms (Some begin) (Ends event) = []

-- the `BEGIN` that is held after it
abbrev pub held_after : List Bool → Option Event → GroupEvent → Option Event
held_after ms held (Begins event) = Some (event_value event)
held_after ms held (Maps event) = held
held_after ms held (Changes rows last) = if stays ms (rows_value rows).content then None else held
held_after ms held (Ends event) = None

-- the marks of the changes after it
abbrev pub marks_after : List Bool → GroupEvent → List Bool
marks_after ms (Changes rows last) = drop (length (changes_of_rows (rows_value rows))) ms
marks_after ms _ = ms

-- the events that are written for several
abbrev pub written_in_turn : List Bool → Option Event → List GroupEvent → List Event
written_in_turn ms held [] = []
written_in_turn ms held (e ∷ es) = written_for ms held e ++ written_in_turn (marks_after ms e) (held_after ms held e) es
