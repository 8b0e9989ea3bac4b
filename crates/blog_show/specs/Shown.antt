-- Rows that are shown: a line for each row of a chosen table, in order, which says where its event is. What follows the place on the line is free.
use Rattle.std.specs.Prelude.{◌≡◌, ◌⊎◌, ℕ, Bool, true, false, List, [], ◌∷◌, ◌++◌, codes}
use Rattle.std.specs.Fmt.{decimal}
use Rattle.blog_choice.specs.Choice.{Choice, chooses}
use Rattle.blog_row.specs.RowsEvent.{RowImages, rows_by}
use Rattle.blog_text.specs.JsonStrings.{json_string}
use Rattle.blog_trans.specs.Changes.{table_of}
use Rattle.blog_trans.specs.Groups.{PlacedRows}
use Rattle.blog_trans.specs.code.InTurn.{GroupEvent, Begins, Maps, Changes, Ends}
use Rattle.blog_show.specs.declared.forms.RowForm.{RowForm}
use Rattle.blog_show.specs.declared.forms.RowForm.TheVariants.{Lines, Json, Csv}

-- ---- a line

-- what is in front of the place in JSON, in a log of this name
abbrev pub json_front : List ℕ → List ℕ
json_front log = codes "{\"log\":" ++ (json_string log ++ codes ",\"position\":")

-- what is in front of the place
abbrev pub front_of : RowForm → List ℕ
front_of Lines = []
front_of (Json log) = json_front log.now
front_of Csv = []

-- what is behind it: a blank or a comma
abbrev pub mark_of : RowForm → ℕ
mark_of Lines = 32
mark_of (Json log) = 44
mark_of Csv = 44

-- a line: the place in decimal digits, and the rest
abbrev pub row_line : RowForm → ℕ → List ℕ → List ℕ
row_line form place rest = front_of form ++ (decimal place ++ (mark_of form ∷ (rest ++ 10 ∷ [])))

-- a line is appended with this place
abbrev pub PutsLine : RowForm → ℕ → List ℕ → List ℕ → Type 0
PutsLine form place old new = (rest : List ℕ) × (new ≡ old ++ row_line form place rest)

-- a text begins a line with this place
abbrev pub BeginsLine : RowForm → ℕ → List ℕ → Type 0
BeginsLine form place text = (told : List ℕ) × (text ≡ front_of form ++ (decimal place ++ (mark_of form ∷ told)))

-- a line is appended for each of these rows, of an event at this place
abbrev pub ShowsRows : RowForm → ℕ → List RowImages → List ℕ → List ℕ → Type 0
ShowsRows form place [] old new = new ≡ old
ShowsRows form place (row ∷ rows) old new = (between : List ℕ) × PutsLine form place old between × ShowsRows form place rows between new

-- ---- the head of columns in CSV

-- a head: each name has a comma in front
abbrev pub csv_head : List ℕ → List ℕ
csv_head names = codes "position,time,op,schema,table" ++ (names ++ 10 ∷ [])

-- nothing is appended, or a head
abbrev pub PutsNewHead : List ℕ → List ℕ → Type 0
PutsNewHead old new = (new ≡ old) ⊎ ((names : List ℕ) × (new ≡ old ++ csv_head names))

-- in CSV there can be a head in front of the rows of an event, and else nothing
abbrev pub PutsHead : RowForm → List ℕ → List ℕ → Type 0
PutsHead Lines old new = new ≡ old
PutsHead (Json log) old new = new ≡ old
PutsHead Csv old new = PutsNewHead old new

-- a line is appended for each of these rows, maybe below a head
abbrev pub PutsRows : RowForm → ℕ → List RowImages → List ℕ → List ℕ → Type 0
PutsRows form place rows old new = (between : List ℕ) × PutsHead form old between × ShowsRows form place rows between new

-- ---- events

-- the rows of an event
abbrev pub rows_in : PlacedRows → List RowImages
rows_in rows = rows_by rows.kind.action rows.body.images

-- it changes a chosen table
abbrev pub is_chosen : Choice → PlacedRows → Bool
is_chosen choice rows = chooses choice (table_of rows.map.event.body).schema (table_of rows.map.event.body).name

abbrev pub ShowsIf : Bool → RowForm → ℕ → List RowImages → List ℕ → List ℕ → Type 0
ShowsIf true form place rows old new = PutsRows form place rows old new
ShowsIf false form place rows old new = new ≡ old

-- an event of groups; positions become places of the server's log
abbrev pub ShowsEvent : RowForm → Choice → (ℕ → ℕ) → GroupEvent → List ℕ → List ℕ → Type 0
ShowsEvent form choice place (Changes rows last) old new = ShowsIf (is_chosen choice rows) form (place rows.event.pos) (rows_in rows) old new
ShowsEvent form choice place (Begins event) old new = new ≡ old
ShowsEvent form choice place (Maps event) old new = new ≡ old
ShowsEvent form choice place (Ends event) old new = new ≡ old

-- several in turn
abbrev pub ShowsEvents : RowForm → Choice → (ℕ → ℕ) → List GroupEvent → List ℕ → List ℕ → Type 0
ShowsEvents form choice place [] old new = new ≡ old
ShowsEvents form choice place (e ∷ es) old new = (between : List ℕ) × ShowsEvent form choice place e old between × ShowsEvents form choice place es between new
