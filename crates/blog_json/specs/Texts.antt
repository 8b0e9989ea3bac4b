-- Texts that grow at their end.
use Rattle.std.specs.Prelude.{◌≡◌, ℕ, ◌-◌, Bool, true, false, Option, Some, None, List, ◌++◌, length, drop, take, replicate}
use Rattle.std.specs.Fmt.{decimal}

-- the text begins with this one
pub record Begins (text start : List ℕ) : Type 0 where
  pub is : take (length start) text ≡ start

-- the new text begins with whatever the old one begins with, so with the old one
abbrev pub Keeps : List ℕ → List ℕ → Type 0
Keeps old new = (start : List ℕ) → Begins old start → Begins new start

-- where there is a text to print, it was appended, and the answer is true; else it is false
abbrev pub Prints : Option (List ℕ) → List ℕ → List ℕ → Bool → Type 0
Prints None old new printed = printed ≡ false
Prints (Some text) old new printed = (printed ≡ true) × (new ≡ old ++ text)

-- there is a text to append, and it was appended
abbrev pub Gains : Option (List ℕ) → List ℕ → List ℕ → Type 0
Gains None old new = ⊥
Gains (Some text) old new = new ≡ old ++ text

-- what was appended
abbrev pub added : List ℕ → List ℕ → List ℕ
added old new = drop (length old) new

-- what was appended is the text that it has to be
abbrev pub IsAdded : (List ℕ → Option (List ℕ)) → List ℕ → List ℕ → Type 0
IsAdded text_of old new = text_of (added old new) ≡ Some (added old new)

-- a number in at least so many digits
abbrev pub padded : ℕ → ℕ → List ℕ
padded digits n = replicate (digits - length (decimal n)) 48 ++ decimal n
