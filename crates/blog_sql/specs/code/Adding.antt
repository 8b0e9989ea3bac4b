-- A text that is added to a chunk: as much of it as the chunk has no room for is written.
use Rattle.std.specs.Prelude.{◌≡◌, ℕ, ◌-◌, ◌%◌, List, ◌++◌, length, take, Option}
use Rattle.std.specs.Io.KnownBytes.{Appends}

-- what the chunk held and the text are what was written and what the chunk holds
abbrev pub Adds : Option (List ℕ) → Option (List ℕ) → List ℕ → List ℕ → List ℕ → Type 0
Adds had has held holds text = (done : List ℕ) × Appends had has done × (done ++ holds ≡ held ++ text)

-- the bytes of which full lines are made
abbrev pub full_part : List ℕ → List ℕ
full_part bytes = take (length bytes - length bytes % 57) bytes
