-- Groups of which rows are left out. Each change of a row has a mark, in order: true for one that stays.
use Rattle.std.specs.Prelude.{ℕ, Bool, true, false, not, ◌||◌, if◌then◌else◌, List, [], ◌∷◌, ◌++◌, length, drop, filter, option_to_list, bytes_eq}
use Rattle.std.specs.List.{flat_map}
use Rattle.blog_event.specs.Event.{Event}
use Rattle.blog_event.specs.File.{read}
use Rattle.blog_row.specs.RowsEvent.{RowImages, rows_by, table_id}
use Rattle.blog_row.specs.RowsWriting.{RowsContent}
use Rattle.blog_trans.specs.Changes.{Change, changes_of_rows, changes_of_statement, changes_of_transaction}
use Rattle.blog_trans.specs.Groups.{RowsEvent, Statement, Transaction, groups}
use Rattle.blog_trans.specs.Selection.{Selection}
use Rattle.blog_flash.specs.Texts.{laid_out_after}

-- the elements whose mark is true; one without a mark doesn't stay
abbrev pub kept : {A : Type 0} → List Bool → List A → List A
kept [] xs = []
kept (m ∷ ms) [] = []
kept (m ∷ ms) (x ∷ xs) = if m then x ∷ kept ms xs else kept ms xs

-- what becomes of each element, in order: each has as many of the marks as it has changes
abbrev pub by_marks : {A B : Type 0} → (A → List Change) → (List Bool → A → List B) → List Bool → List A → List B
by_marks changes_in becomes ms [] = []
by_marks changes_in becomes ms (x ∷ xs) = becomes ms x ++ by_marks changes_in becomes (drop (length (changes_in x)) ms) xs

-- ---- rows events

-- the images of a row: the one before, and the one after
abbrev pub row_images : RowImages → List (List ℕ)
row_images row = option_to_list row.before ++ option_to_list row.after

-- the rows of an event
abbrev pub content_rows : RowsContent → List RowImages
content_rows c = rows_by c.kind.action c.images

-- the event with the rows that stay
abbrev pub content_kept : List Bool → RowsContent → RowsContent
content_kept ms c = record c { images = flat_map row_images (kept ms (content_rows c)) }

abbrev pub rows_kept : List Bool → RowsEvent → RowsEvent
rows_kept ms r = record r { content = content_kept ms r.content }

abbrev pub is_empty : {A : Type 0} → List A → Bool
is_empty [] = true
is_empty (x ∷ xs) = false

-- an event stays if one of its rows does, or if it has none
abbrev pub stays : List Bool → RowsContent → Bool
stays ms c = is_empty (content_rows c) || not (is_empty (kept ms (content_rows c)))

-- ---- groups

-- a rows event that stays is a statement of its own, with the map of its table id
abbrev pub event_kept : List Event → List Bool → RowsEvent → List Statement
event_kept maps ms r =
    if stays ms r.content then record { maps = filter (λ m. bytes_eq (table_id m.body) r.content.id) maps; rows = rows_kept ms r ∷ [] } ∷ [] else []

abbrev pub statement_kept : List Bool → Statement → List Statement
statement_kept ms s = by_marks changes_of_rows (event_kept s.maps) ms s.rows

-- a transaction with other statements; without any it is left out
abbrev pub with_statements : Transaction → List Statement → List Transaction
with_statements t [] = []
with_statements t (s ∷ ss) = record { begin = t.begin; statements = s ∷ ss; end = t.end } ∷ []

abbrev pub transaction_kept : List Bool → Transaction → List Transaction
transaction_kept ms t = with_statements t (by_marks changes_of_statement statement_kept ms t.statements)

abbrev pub transactions_kept : List Bool → List Transaction → List Transaction
transactions_kept ms ts = by_marks changes_of_transaction transaction_kept ms ts

-- they are written after the format description
unfoldable pub left_out_text : List Bool → List ℕ → Selection → List ℕ
left_out_text ms bytes sel = laid_out_after (read bytes sel.stop) (transactions_kept ms (groups bytes sel))
