-- Slices are written over bytes, one after the other.
use Rattle.std.proofs.Common.{◌≡◌, ℕ, ◌+◌, ◌-◌, ◌≤◌, List, ◌++◌, length, take, drop, sym, ap, subst, ◌∙◌, arith, append_assoc, length-append, length-drop, length-take-le, take_at, drop_at, drop-drop}

-- what is written and what is left to be written are all, and behind what is written stands what stood there
pub record IsOver (all rest : List ℕ) (at : ℕ) (old to : List ℕ) : Type 0 where
  pub written : take at to ++ rest ≡ all
  pub left : at + length rest ≡ length all
  pub behind : drop at to ≡ drop at old
  pub len : length to ≡ length old

-- one slice more
pub over-more : (all part rest old to : List ℕ) (at k : ℕ) → length all ≤ length old → k ≡ length part → IsOver all (part ++ rest) at old to
    → IsOver all rest (at + k) old (take at to ++ (part ++ drop ((at + k) - at) (drop at to)))
over-more all part rest old to at k within long over =
    let sizes = length-append part rest in
    let left = over.left in
    let same = over.len in
    let fits : at ≤ length to = omega arith in
    let ahead = length-take-le at to fits in
    let front : length (take at to ++ part) ≡ at + k = let joined = length-append (take at to) part in omega arith in
    let number : (at + k) - at ≡ k = omega arith in
    let parts : take at to ++ (part ++ drop ((at + k) - at) (drop at to)) ≡ (take at to ++ part) ++ drop k (drop at to) =
    ap (λ (n : ℕ). take at to ++ (part ++ drop n (drop at to))) number ∙ sym (append_assoc (take at to) part (drop k (drop at to))) in
    let joined = ap length parts ∙ length-append (take at to ++ part) (drop k (drop at to)) in
    let tail = length-drop k (drop at to) in
    let others = length-drop at to in
    record {
      written =
          ap (λ (xs : List ℕ). take (at + k) xs ++ rest) parts ∙ ap (λ (xs : List ℕ). xs ++ rest) (take_at (take at to ++ part) (drop k (drop at to)) (at + k) front)
          ∙ append_assoc (take at to) part rest ∙ over.written;
      left = omega arith;
      behind =
          ap (drop (at + k)) parts ∙ drop_at (take at to ++ part) (drop k (drop at to)) (at + k) front
          ∙ ap (drop k) over.behind ∙ drop-drop k at old;
      len = omega arith;
    }

-- the same, where what stands behind it is told from the front on
pub over-part : (all part rest old to new : List ℕ) (at k : ℕ) → length all ≤ length old → k ≡ length part → IsOver all (part ++ rest) at old to
    → new ≡ take at to ++ (part ++ drop (at + length part) to) → IsOver all rest (at + k) old new
over-part all part rest old to new at k within long over is =
    let number : (at + k) - at ≡ length part = omega (arith, long) in
    let behind : drop ((at + k) - at) (drop at to) ≡ drop (at + length part) to = ap (λ (n : ℕ). drop n (drop at to)) number ∙ drop-drop (length part) at to in
    subst (λ (t : List ℕ). IsOver all rest (at + k) old t) (ap (λ (t : List ℕ). take at to ++ (part ++ t)) behind ∙ sym is) (over-more all part rest old to at k within long over)
