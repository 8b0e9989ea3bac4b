-- Bytes and values by their positions, which may lie past the bytes.
use Rattle.std.specs.Prelude.{◌≡◌, ℕ, nat_le, if◌then◌else◌, List, length, drop, Option, Some, None, option_map, option_and_then}
use Rattle.blog_row.specs.Column.{Layout}
use Rattle.blog_row.specs.Image.{values_front}

-- the bytes from a position on, None where it lies past them
abbrev pub from_position : ℕ → List ℕ → Option (List ℕ)
from_position at bytes = if nat_le at (length bytes) then Some (drop at bytes) else None

-- a value that is read from a position on ends at another one; None where no value is there
abbrev pub EndsAt : (List ℕ → Option (List ℕ × List ℕ)) → ℕ → List ℕ → Option ℕ → Type 0
EndsAt read at bytes end =
    option_and_then (λ rest. option_map (λ v. v.1) (read rest)) (from_position at bytes) ≡ option_and_then (λ e. from_position e bytes) end

-- the bytes behind the values of the columns from column i on, which begin at a position
abbrev pub behind_from : Layout → List ℕ → ℕ → ℕ → List ℕ → Option (List ℕ)
behind_from columns nulls i at bytes = option_and_then (λ rest. option_map (λ r. r.1) (values_front columns nulls i rest)) (from_position at bytes)
