-- Which of several files are the same, by their ids.
use Rattle.std.specs.Prelude.{◌≡◌, ◌<◌, ℕ, List, length, slice_get}
use Rattle.result_file.specs.declared.file_id.FileId.{FileId}

-- the id at `later` is also at `earlier`
abbrev pub IsRepeated : List FileId → ℕ → ℕ → Type 0
IsRepeated ids earlier later = (earlier < later) × (later < length ids) × (slice_get ids earlier ≡ slice_get ids later)

-- and no id before it is at two places
abbrev pub IsFirstRepeated : List FileId → ℕ → ℕ → Type 0
IsFirstRepeated ids earlier later = IsRepeated ids earlier later × ((i j : ℕ) → j < later → ¬ IsRepeated ids i j)
