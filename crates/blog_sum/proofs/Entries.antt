-- Each table is what it says, by its 256 entries.
use Rattle.std.proofs.Common.{◌≡◌, ℕ, zero, suc, ◌+◌, ◌*◌, ◌<◌, Bool, true, false, ◌&&◌, T, eqb, List, [], ◌∷◌, length, get_or, refl, sym, ap, ◌∙◌, arith, eqb→eq}
use lib.Ieee.Fits.{and_l, and_r}
use Rattle.blog_sum.specs.Crc.{step_bits}
use Rattle.blog_sum.specs.declared.tables.TheConstants.{TABLES}
use Rattle.blog_sum.proofs.Steps.{step_bits-add}

-- a table has for each byte the register after n steps
abbrev pub IsTable : ℕ → List ℕ → Type 0
IsTable n table = (i : ℕ) → i < 256 → get_or table i 0 ≡ step_bits n i

-- eight steps lead from the entries of one table to those of the other
abbrev are_next : List ℕ → List ℕ → Bool
are_next [] ys = true
are_next (x ∷ xs) [] = false
are_next (x ∷ xs) (y ∷ ys) = eqb y (step_bits 8 x) && are_next xs ys

next-at : (xs ys : List ℕ) → T (are_next xs ys) → (k : ℕ) → k < length xs → get_or ys k 0 ≡ step_bits 8 (get_or xs k 0)
next-at [] ys t k h = absurd (omega arith)
next-at (x ∷ xs) [] t k h = absurd t
next-at (x ∷ xs) (y ∷ ys) t zero h = eqb→eq y (step_bits 8 x) (and_l (eqb y (step_bits 8 x)) (are_next xs ys) t)
next-at (x ∷ xs) (y ∷ ys) t (suc k) h = next-at xs ys (and_r (eqb y (step_bits 8 x)) (are_next xs ys) t) k (omega arith)

-- one table more
one-more : (n : ℕ) (xs ys : List ℕ) → IsTable n xs → length xs ≡ 256 → T (are_next xs ys) → IsTable (n + 8) ys
one-more n xs ys table size t i h = next-at xs ys t i (omega arith) ∙ ap (step_bits 8) (table i h) ∙ sym (step_bits-add n 8 i)

-- eight steps lead from each table to the next one
abbrev are_after : List ℕ → List (List ℕ) → Bool
are_after xs [] = true
are_after xs (ys ∷ tables) = (eqb (length ys) 256 && are_next xs ys) && are_after ys tables

all-after : (k : ℕ) (xs : List ℕ) (tables : List (List ℕ)) → IsTable k xs → length xs ≡ 256 → T (are_after xs tables)
    → (n : ℕ) → n < length tables → IsTable (k + 8 * (n + 1)) (get_or tables n [])
all-after k xs [] table size t n h = absurd (omega arith)
all-after k xs (ys ∷ tables) table size t zero h =
    one-more k xs ys table size (and_r (eqb (length ys) 256) (are_next xs ys) (and_l (eqb (length ys) 256 && are_next xs ys) (are_after ys tables) t))
all-after k xs (ys ∷ tables) table size t (suc n) h =
    let here : T (eqb (length ys) 256 && are_next xs ys) = and_l (eqb (length ys) 256 && are_next xs ys) (are_after ys tables) t in
    let next : IsTable (k + 8) ys = one-more k xs ys table size (and_r (eqb (length ys) 256) (are_next xs ys) here) in
    let long : length ys ≡ 256 = eqb→eq (length ys) 256 (and_l (eqb (length ys) 256) (are_next xs ys) here) in
    let later : T (are_after ys tables) = and_r (eqb (length ys) 256 && are_next xs ys) (are_after ys tables) t in
    let steps : k + 8 + 8 * (n + 1) ≡ k + 8 * (suc n + 1) = omega arith in
    λ i below. all-after (k + 8) ys tables next long later n (omega arith) i below ∙ ap (λ m. step_bits m i) steps

-- the bytes themselves
abbrev numbers : ℕ → ℕ → List ℕ
numbers i zero = []
numbers i (suc n) = i ∷ numbers (i + 1) n

numbers-at : (i n k : ℕ) → k < n → get_or (numbers i n) k 0 ≡ i + k
numbers-at i zero k h = absurd (omega arith)
numbers-at i (suc n) zero h = let same : i ≡ i + zero = omega arith in same
numbers-at i (suc n) (suc k) h = let same : i + 1 + k ≡ i + suc k = omega arith in numbers-at (i + 1) n k (omega arith) ∙ same

no-steps : IsTable 0 (numbers 0 256)
unfolding step_bits
no-steps i h = let same : 0 + i ≡ i = omega arith in numbers-at 0 256 i h ∙ same

-- computed over all entries
pub table-at : (n : ℕ) → n < 16 → IsTable (8 * (n + 1)) (get_or TABLES n [])
unfolding step_bits
table-at n h =
    let steps : 0 + 8 * (n + 1) ≡ 8 * (n + 1) = omega arith in
    λ i below. all-after 0 (numbers 0 256) TABLES no-steps refl tt n h i below ∙ ap (λ m. step_bits m i) steps
