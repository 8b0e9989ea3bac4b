-- The rows of a unit by table, in the room of a line.
use Rattle.std.specs.Prelude.{ℕ, suc, ◌+◌, ◌-◌, ◌==◌, nat_le, if◌then◌else◌, List, [], ◌∷◌, ◌++◌, length, codes}
use Rattle.std.specs.Fmt.{decimal}
use Rattle.blog_trans.specs.Changes.{TableCount}
use Rattle.blog_text.specs.Escapes.{name_columns, quoted_table}

-- ---- the largest first

-- how many rows of a table are changed
abbrev pub rows_in : TableCount → ℕ
rows_in c = c.inserts + (c.updates + c.deletes)

-- a table, in front of those of no more rows
abbrev pub placed : TableCount → List TableCount → List TableCount
placed c [] = c ∷ []
placed c (d ∷ ds) = if nat_le (rows_in d) (rows_in c) then c ∷ d ∷ ds else d ∷ placed c ds

-- tables by their rows, the most first; those of as many rows stay in their order
abbrev pub largest_first : List TableCount → List TableCount
largest_first [] = []
largest_first (c ∷ cs) = placed c (largest_first cs)

-- ---- their texts

-- words and a number of rows, left out where there are none
abbrev pub rows_text : List ℕ → ℕ → List ℕ
rows_text words n = if n == 0 then [] else words ++ decimal n

-- the rows of a table
abbrev pub numbers_text : TableCount → List ℕ
numbers_text c = rows_text (codes " inserts ") c.inserts ++ (rows_text (codes " updates ") c.updates ++ rows_text (codes " deletes ") c.deletes)

-- its names and its rows
abbrev pub count_text : TableCount → List ℕ
count_text c = quoted_table c.table.schema c.table.name ++ numbers_text c

-- how many columns of a terminal that takes
abbrev pub count_columns : TableCount → ℕ
count_columns c = name_columns c.table.schema + (1 + (name_columns c.table.name + length (numbers_text c)))

-- a further table
abbrev pub next_count : TableCount → List ℕ
next_count c = codes "; " ++ count_text c

abbrev pub next_columns : TableCount → ℕ
next_columns c = 2 + count_columns c

-- how many tables aren't shown, where these are several
abbrev pub many_text : ℕ → List ℕ
many_text n = codes "; " ++ (decimal n ++ codes " more tables")

-- the same, where there are any
abbrev pub more_text : ℕ → List ℕ
more_text n = if n == 0 then [] else if n == 1 then codes "; 1 more table" else many_text n

-- further tables in a room, as long as each fits with the number of those behind it
abbrev pub further_text : ℕ → List TableCount → List ℕ
further_text room [] = []
further_text room (c ∷ cs) =
    if nat_le (next_columns c + length (more_text (length cs))) room then next_count c ++ further_text (room - next_columns c) cs
    else more_text (suc (length cs))

-- tables in a room: the first one, and as many others as fit
abbrev pub tables_text : ℕ → List TableCount → List ℕ
tables_text room [] = codes "no rows"
tables_text room (c ∷ cs) = count_text c ++ further_text (room - count_columns c) cs

-- the rows of a unit by table
abbrev pub counts_text : ℕ → List TableCount → List ℕ
counts_text room counts = tables_text room (largest_first counts)
