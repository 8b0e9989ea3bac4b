-- What the laws of texts that are printed speak of.
use Rattle.std.specs.Prelude.{◌≡◌, ℕ, ◌+◌, ◌-◌, ◌≤◌, List, [], ◌∷◌, ◌++◌, length, take}
use Rattle.std.specs.List.{flat_map}
use Rattle.blog_trans.specs.Changes.{TableCount}
use Rattle.blog_text.specs.declared.marks.Mark.{Mark}
use Rattle.blog_text.specs.Escapes.{columns_of}
use Rattle.blog_text.specs.Tables.{count_columns, count_text, more_text, next_columns, next_count, tables_text}

-- how many columns of a terminal marks take, escaped
abbrev pub all_columns : List Mark → ℕ
all_columns [] = 0
all_columns (mark ∷ marks) = columns_of mark + all_columns marks

-- how many columns tables take behind another one
abbrev pub all_next : List TableCount → ℕ
all_next [] = 0
all_next (c ∷ cs) = next_columns c + all_next cs

-- what is printed of these tables in a room is the first of them, k others, and the number of the rest; and it fits
abbrev pub IsWithin : ℕ → ℕ → TableCount → List TableCount → Type 0
IsWithin room k c cs = (tables_text room (c ∷ cs) ≡ count_text c ++ (flat_map next_count (take k cs) ++ more_text (length cs - k)))
    × (count_columns c + (all_next (take k cs) + length (more_text (length cs - k))) ≤ room)
