-- Reading a body from its front: the first check that fails decides.
use Rattle.std.specs.Prelude.{ℕ, nat_le, if◌then◌else◌, Bool, List, length, take, drop, Option, Some, None, Result, Ok, Err}
use Rattle.std.specs.Borrow.{Bor}
use Rattle.blog_row.specs.declared.fault.RowFault.{RowFault}
use Rattle.blog_row.specs.declared.fault.RowFault.TheVariants.{BadBody}

infixl 10 ◌>>=◌
abbrev pub ◌>>=◌ : {A B : Type 0} → Result A RowFault → (A → Result B RowFault) → Result B RowFault
(Ok x) >>= f = f x
(Err e) >>= f = Err e

-- the rest of the checks, where a test passes
abbrev pub check : {A : Type 0} → Bool → RowFault → Result A RowFault → Result A RowFault
check passes fault rest = if passes then rest else Err fault

-- what is there, else the body lacks its layout
abbrev pub or_bad : {A : Type 0} → Option A → Result A RowFault
or_bad None = Err BadBody
or_bad (Some x) = Ok x

-- the first n bytes, and the others
abbrev pub cut : ℕ → List ℕ → Option (List ℕ × List ℕ)
cut n bytes = if nat_le n (length bytes) then Some (take n bytes, drop n bytes) else None

-- the same of two slices of the program
abbrev pub cut_seen : Bor (List ℕ) × Bor (List ℕ) → List ℕ × List ℕ
cut_seen parts = (parts.0.now, parts.1.now)
