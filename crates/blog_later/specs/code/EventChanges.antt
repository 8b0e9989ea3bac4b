-- The changes of an event of groups, and of rows by their images.
use Rattle.std.specs.Prelude.{List, [], ◌∷◌, Option, Some, None, ℕ}
use Rattle.std.specs.List.{flat_map}
use Rattle.blog_row.specs.Column.{Layout}
use Rattle.blog_row.specs.Image.{row_of}
use Rattle.blog_row.specs.RowsEvent.{RowImages}
use Rattle.blog_row.specs.TableMap.{Table}
use Rattle.blog_trans.specs.Changes.{Change, Inserted, Deleted, Updated, changes_of_rows}
use Rattle.blog_trans.specs.Groups.{rows_value}
use Rattle.blog_trans.specs.code.InTurn.{GroupEvent, Changes}

-- the changes of an event of the groups
abbrev pub event_changes : GroupEvent → List Change
event_changes (Changes rows last) = changes_of_rows (rows_value rows)
event_changes _ = []

-- a row by its images before and after
abbrev pub image_changes : Table → Layout → Option (List ℕ) → Option (List ℕ) → List Change
image_changes t layout None None = []
image_changes t layout None (Some after) = Inserted t (row_of layout after) ∷ []
image_changes t layout (Some before) None = Deleted t (row_of layout before) ∷ []
image_changes t layout (Some before) (Some after) = Updated t (row_of layout before) (row_of layout after) ∷ []

-- rows by their images
abbrev pub images_changes : Table → Layout → List RowImages → List Change
images_changes t layout rows = flat_map (λ r. image_changes t layout r.before r.after) rows

-- the changes of events of groups
abbrev pub events_changes : List GroupEvent → List Change
events_changes events = flat_map event_changes events
