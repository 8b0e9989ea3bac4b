-- The null bits of a row are set one after the other.
use Rattle.std.proofs.Common.{◌≡◌, ◌≢◌, ◌<◌, ◌≤◌, ◌+◌, ◌*◌, ◌/◌, ◌%◌, ◌^◌, ◌==◌, ℕ, zero, suc, Bool, true, false, ◌||◌, List, length, None, get_or, set, take, replicate, slice_index, slice_index_or, is_none, nat_eq, bit_or, refl, sym, ap, ◌∙◌, arith, eqb-true, ne_eqb, w8, get_or-set_same, get_or-set_other}
use Rattle.std.proofs.lemmas.Bool.{eqb-false}
use Rattle.std.proofs.lemmas.Nat.Bits.{bit_at-zero, bit_at_set_same, bit_at_set_other}
use Rattle.std.specs.Int.{bit_at}
use Rattle.blog_row.specs.Image.{Row, is_marked}
use Rattle.blog_pairs.specs.Spelled.{MarksOnly}

-- ---- one bit

abbrev with_bit : List ℕ → ℕ → List ℕ
with_bit old i = set old (i / 8) (bit_or (get_or old (i / 8) 0) (1 * 2 ^ (i % 8) % 2 ^ 8))

same_bit : (old : List ℕ) (i : ℕ) → i < 8 * length old → is_marked (with_bit old i) i ≡ true
same_bit old i within =
    ap (λ b. nat_eq (bit_at b (i % 8)) 1) (get_or-set_same old (i / 8) _ 0 (omega arith))
    ∙ ap (λ n. nat_eq n 1) (bit_at_set_same w8 (get_or old (i / 8) 0) (i % 8) (omega arith))

other_bit : (old : List ℕ) (i k : ℕ) → i < 8 * length old → k ≢ i → is_marked (with_bit old i) k ≡ is_marked old k
other_bit old i k within apart = by_case (nat_eq (k / 8) (i / 8)) refl
  where
    by_case : (b : Bool) → nat_eq (k / 8) (i / 8) ≡ b → is_marked (with_bit old i) k ≡ is_marked old k
    by_case true is =
        let same : k / 8 ≡ i / 8 = eqb-true (k / 8) (i / 8) is in
        let bits : k % 8 ≢ i % 8 = λ e. apart (omega arith) in
        ap (λ j. nat_eq (bit_at (get_or (with_bit old i) j 0) (k % 8)) 1) same
        ∙ ap (λ b. nat_eq (bit_at b (k % 8)) 1) (get_or-set_same old (i / 8) _ 0 (omega arith))
        ∙ ap (λ n. nat_eq n 1) (bit_at_set_other w8 (get_or old (i / 8) 0) (i % 8) (omega arith) (k % 8) bits)
        ∙ ap (λ j. nat_eq (bit_at (get_or old j 0) (k % 8)) 1) (sym same)
    by_case false is = ap (λ b. nat_eq (bit_at b (k % 8)) 1) (get_or-set_other old (i / 8) (k / 8) _ 0 (eqb-false (k / 8) (i / 8) is))

pub set_marks : (old : List ℕ) (i k : ℕ) → i < 8 * length old → is_marked (with_bit old i) k ≡ (k == i || is_marked old k)
set_marks old i k within = by_case (nat_eq k i) refl
  where
    by_case : (b : Bool) → nat_eq k i ≡ b → is_marked (with_bit old i) k ≡ (nat_eq k i || is_marked old k)
    by_case true is = ap (is_marked (with_bit old i)) (eqb-true k i is) ∙ same_bit old i within ∙ ap (λ b. b || is_marked old k) (sym is)
    by_case false is = other_bit old i k within (eqb-false k i is) ∙ ap (λ b. b || is_marked old k) (sym is)

-- ---- those of the first values

pub record MarksUpTo (nulls : List ℕ) (row : Row) (i : ℕ) : Type 0 where
  pub marked : (k : ℕ) → k < i → is_marked nulls k ≡ is_none (slice_index_or row k None)
  pub free : (k : ℕ) → i ≤ k → is_marked nulls k ≡ false

pub marks_none : (nulls : List ℕ) (row : Row) → ((k : ℕ) → slice_index nulls k ≡ 0) → MarksUpTo nulls row 0
marks_none nulls row zeros = record {
  marked = λ k below. absurd (omega arith);
  free = λ k above. ap (λ b. nat_eq (bit_at b (k % 8)) 1) (zeros (k / 8)) ∙ ap (λ n. nat_eq n 1) (bit_at-zero (k % 8));
}

-- the bit of a NULL is set
pub marks_set : (nulls new : List ℕ) (row : Row) (i : ℕ) → MarksUpTo nulls row i → is_none (slice_index_or row i None) ≡ true
    → ((k : ℕ) → is_marked new k ≡ (k == i || is_marked nulls k)) → MarksUpTo new row (i + 1)
marks_set nulls new row i h none bits = record { marked = λ k below. by_case k below (nat_eq k i) refl; free = after }
  where
    by_case : (k : ℕ) → k < i + 1 → (b : Bool) → nat_eq k i ≡ b → is_marked new k ≡ is_none (slice_index_or row k None)
    by_case k below true is = bits k ∙ ap (λ b. b || is_marked nulls k) is ∙ sym none ∙ ap (λ j. is_none (slice_index_or row j None)) (sym (eqb-true k i is))
    by_case k below false is = let apart = eqb-false k i is in bits k ∙ ap (λ b. b || is_marked nulls k) is ∙ h.marked k (omega arith)

    after : (k : ℕ) → i + 1 ≤ k → is_marked new k ≡ false
    after k above = bits k ∙ ap (λ b. b || is_marked nulls k) (ne_eqb k i (λ e. omega arith)) ∙ h.free k (omega arith)

-- and that of a value stays
pub marks_kept : (nulls : List ℕ) (row : Row) (i : ℕ) → MarksUpTo nulls row i → is_none (slice_index_or row i None) ≡ false → MarksUpTo nulls row (i + 1)
marks_kept nulls row i h some = record { marked = λ k below. by_case k below (nat_eq k i) refl; free = λ k above. h.free k (omega arith) }
  where
    by_case : (k : ℕ) → k < i + 1 → (b : Bool) → nat_eq k i ≡ b → is_marked nulls k ≡ is_none (slice_index_or row k None)
    by_case k below true is = let same = eqb-true k i is in h.free k (omega arith) ∙ sym some ∙ ap (λ j. is_none (slice_index_or row j None)) (sym same)
    by_case k below false is = let apart = eqb-false k i is in h.marked k (omega arith)

pub marks_all : (nulls : List ℕ) (row : Row) (i : ℕ) → i ≡ length row → MarksUpTo nulls row i → MarksOnly nulls row
marks_all nulls row i all h = record { marks = λ k below. h.marked k (omega arith); free = λ k above. h.free k (omega arith) }

-- no bit is set in bytes of zero
pub zeros_taken : (n len k : ℕ) → slice_index (take len (replicate n 0)) k ≡ 0
zeros_taken zero zero k = refl
zeros_taken zero (suc len) k = refl
zeros_taken (suc n) zero k = refl
zeros_taken (suc n) (suc len) zero = refl
zeros_taken (suc n) (suc len) (suc k) = zeros_taken n len k
