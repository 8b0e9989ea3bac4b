-- The printed lines of a row by its images, and of an event of the groups.
use Rattle.std.specs.Prelude.{ℕ, List, [], ◌∷◌, ◌++◌, Option, Some, None, codes}
use Rattle.std.specs.Fmt.{decimal}
use Rattle.std.specs.List.{flat_map}
use Rattle.blog_row.specs.Column.{Layout}
use Rattle.blog_row.specs.Image.{row_of}
use Rattle.blog_row.specs.RowsEvent.{RowImages}
use Rattle.blog_row.specs.TableMap.{Table}
use Rattle.blog_trans.specs.Changes.{Inserted, Deleted, Updated, changes_of_rows}
use Rattle.blog_trans.specs.Groups.{rows_value}
use Rattle.blog_trans.specs.code.InTurn.{GroupEvent, Begins, Maps, Changes, Ends}
use Rattle.blog_flash.specs.Printed.{line, quoted_table, value_text, change_lines}

-- the line of the value of the column with this number
abbrev pub value_line : ℕ → Option (List ℕ) → List ℕ
value_line n value = line (codes "###   @" ++ (decimal n ++ (61 ∷ value_text value)))

-- words and a table
abbrev pub table_line : List ℕ → Table → List ℕ
table_line words t = line (words ++ quoted_table t)

-- a row by its images before and after
abbrev pub image_lines : Table → Layout → Option (List ℕ) → Option (List ℕ) → List ℕ
image_lines t layout None None = []
image_lines t layout None (Some after) = change_lines (Inserted t (row_of layout after))
image_lines t layout (Some before) None = change_lines (Deleted t (row_of layout before))
image_lines t layout (Some before) (Some after) = change_lines (Updated t (row_of layout before) (row_of layout after))

-- rows by their images
abbrev pub images_lines : Table → Layout → List RowImages → List ℕ
images_lines t layout rows = flat_map (λ r. image_lines t layout r.before r.after) rows

-- an event of the groups
abbrev pub event_lines : GroupEvent → List ℕ
event_lines (Begins event) = line (codes "BEGIN")
event_lines (Maps event) = []
event_lines (Changes rows last) = flat_map change_lines (changes_of_rows (rows_value rows))
event_lines (Ends event) = line (codes "COMMIT")
