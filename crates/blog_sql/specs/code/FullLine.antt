-- Base64 without its alphabet.
use Rattle.std.specs.Prelude.{ℕ, ◌+◌, ◌*◌, ◌/◌, ◌%◌, List, [], ◌∷◌}

-- the numbers of six bits in bytes, three by three
abbrev pub sixes : List ℕ → List ℕ
sixes [] = []
sixes (a ∷ []) = []
sixes (a ∷ b ∷ []) = []
sixes (a ∷ b ∷ c ∷ rest) = (a / 4) ∷ ((a % 4 * 16 + b / 16) ∷ ((b % 16 * 4 + c / 64) ∷ ((c % 64) ∷ sixes rest)))
