-- What a contract sees of null bits and of a value.
use Rattle.std.specs.Prelude.{◌≡◌, ◌≤◌, ◌<◌, ℕ, true, List, Option, option_map}
use Rattle.std.specs.Borrow.{Bor}
use Rattle.blog_row.specs.Image.{is_marked}

-- the columns from one on, and below another, are NULL
abbrev pub AreNull : List ℕ → ℕ → ℕ → Type 0
AreNull nulls from to = (i : ℕ) → from ≤ i → i < to → is_marked nulls i ≡ true

-- the value of a column, where there is one: None where it is NULL
abbrev pub value_seen : Option (Option (Bor (List ℕ))) → Option (Option (List ℕ))
value_seen value = option_map (option_map (λ bytes. bytes.now)) value
