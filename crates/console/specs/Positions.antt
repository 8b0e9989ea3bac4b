-- Byte positions among the values of options.
use Rattle.std.specs.Prelude.{◌≡◌, ℕ, ◌<◌, ◌^◌, List, Option, Some, None}
use Rattle.std.specs.Str.Parse.{IsNumeral, digits_value}

-- a position: decimal digits and nothing else, below 2^32
abbrev pub IsPosition : List ℕ → Type 0
IsPosition value = IsNumeral 10 value × (digits_value 10 value < 2 ^ 32)

-- the position that an option's value means, and none where it has no value
abbrev pub IsPositionOf : Option (List ℕ) → Option ℕ → Type 0
IsPositionOf None position = position ≡ None
IsPositionOf (Some value) position = IsPosition value × (position ≡ Some (digits_value 10 value))

-- an option's value means no position
abbrev pub IsWrongPosition : Option (List ℕ) → Type 0
IsWrongPosition None = ⊥
IsWrongPosition (Some value) = ¬ (IsPosition value)
