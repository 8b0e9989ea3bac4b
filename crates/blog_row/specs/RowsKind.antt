-- The kinds of rows events: which version they are of, what they do to their rows, and which event types they are
-- (MySQL Internals manual, "Rows_event").
use Rattle.std.specs.Prelude.{ℕ, List, [], ◌∷◌, Option, find, ◌==◌}
use Rattle.blog_row.specs.declared.kind.RowsAction.{RowsAction}
use Rattle.blog_row.specs.declared.kind.RowsAction.TheVariants.{Write, Update, Delete}
use Rattle.blog_row.specs.declared.kind.RowsKind.{RowsKind}
use Rattle.blog_row.specs.declared.kind.RowsVersion.{RowsVersion}
use Rattle.blog_row.specs.declared.kind.RowsVersion.TheVariants.{One, Two}

-- WRITE_ROWS_EVENT, UPDATE_ROWS_EVENT and DELETE_ROWS_EVENT, of version 1 and of version 2
abbrev pub number_by : RowsVersion → RowsAction → ℕ
number_by One Write = 23
number_by One Update = 24
number_by One Delete = 25
number_by Two Write = 30
number_by Two Update = 31
number_by Two Delete = 32

-- the event type of a kind
abbrev pub number_of_kind : RowsKind → ℕ
number_of_kind kind = number_by kind.version kind.action

-- all kinds
abbrev pub rows_kinds : List RowsKind
rows_kinds =
    record { version = One; action = Write } ∷ record { version = One; action = Update } ∷ record { version = One; action = Delete }
    ∷ record { version = Two; action = Write } ∷ record { version = Two; action = Update } ∷ record { version = Two; action = Delete } ∷ []

-- the kind of an event type, where it is one of these
abbrev pub rows_kind_of : ℕ → Option RowsKind
rows_kind_of number = find (λ kind. number_of_kind kind == number) rows_kinds

-- how many bitmaps a rows event has, and how many images a row
abbrev pub images_a_row : RowsAction → ℕ
images_a_row Write = 1
images_a_row Update = 2
images_a_row Delete = 1

-- inserting and deleting are exchanged
abbrev pub opposite : RowsAction → RowsAction
opposite Write = Delete
opposite Update = Update
opposite Delete = Write

-- the kind that undoes a kind, of the same version
abbrev pub opposite_kind : RowsKind → RowsKind
opposite_kind kind = record kind { action = opposite kind.action }
