-- Parts of bytes.
use Rattle.std.specs.Prelude.{ℕ, ◌+◌, nat_le, if◌then◌else◌, List, length, take, drop, Option, Some, None}
use Rattle.std.specs.Borrow.{Bor}

-- the bytes behind a reference
abbrev pub now_of : Bor (List ℕ) → List ℕ
now_of bytes = bytes.now

-- the bytes from a place on, if there are that many
abbrev pub bytes_from : ℕ → List ℕ → Option (List ℕ)
bytes_from start bytes = if nat_le start (length bytes) then Some (drop start bytes) else None

-- so many bytes from a place on
abbrev pub bytes_within : ℕ → ℕ → List ℕ → Option (List ℕ)
bytes_within start len bytes = if nat_le (start + len) (length bytes) then Some (take len (drop start bytes)) else None
