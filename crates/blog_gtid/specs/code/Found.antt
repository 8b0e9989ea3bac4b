-- What a reader found, as a value: with the bytes after it in place of a reference to them.
use Rattle.std.specs.Prelude.{List, ℕ, Option, option_map}
use Rattle.std.specs.Borrow.{Bor}

abbrev pub found : {A : Type 0} → Option (A × Bor (List ℕ)) → Option (A × List ℕ)
found read = option_map (λ p. (p.0, p.1.now)) read
