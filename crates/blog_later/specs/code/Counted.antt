-- Numbers that are counted, and where units begin.
use Rattle.std.specs.Prelude.{ℕ, ◌-◌, ◌^◌, List, map, min}
use Rattle.blog_units.specs.Units.{Facts}

-- a number, or the greatest one of 64 bits
abbrev pub at_most : ℕ → ℕ
at_most n = min n (2 ^ 64 - 1)

-- where those of the units begin that pass a test
abbrev pub starts : List Facts → List ℕ
starts us = map (λ u. u.start) us
