-- Packed integers are read exactly as they are spelled.
use Rattle.std.proofs.Common.{◌≡◌, ℕ, List, [], ◌∷◌, ◌++◌, length, Option, Some, option_map, refl, sym, ap, ◌∙◌, subst₂}
use Rattle.blog_row.specs.Checks.{cut}
use Rattle.blog_row.specs.Packed.{announced, packed_value, IsPacked, packed_front}
use Rattle.blog_row.proofs.Cutting.{none_is_not, and_then_found, map_found, and_then_again, map_again, cut_found, cut_again}

-- the number, its bytes, and the others, of a first byte and a cut behind it
abbrev parts : ℕ → List ℕ × List ℕ → ℕ × List ℕ × List ℕ
parts first p = (packed_value first p.0, first ∷ p.0, p.1)

-- what follows the first byte, so many bytes of value
abbrev behind : ℕ → List ℕ → ℕ → Option (ℕ × List ℕ × List ℕ)
behind first bytes more = option_map (parts first) (cut more bytes)

-- what reads at the front spells the number, and stands there
pub packed_found : (bytes : List ℕ) (n : ℕ) (spelling rest : List ℕ) → packed_front bytes ≡ Some (n, spelling, rest) → IsPacked spelling n × (bytes ≡ spelling ++ rest)
unfolding packed_front
packed_found [] n spelling rest e = none_is_not (n, spelling, rest) e
packed_found (first ∷ bytes) n spelling rest e =
    let a : (more : ℕ) × (announced first ≡ Some more) × (behind first bytes more ≡ Some (n, spelling, rest)) = and_then_found (behind first bytes) (announced first) (n, spelling, rest) e in
    let m : (p : List ℕ × List ℕ) × (cut a.0 bytes ≡ Some p) × (parts first p ≡ (n, spelling, rest)) = map_found (parts first) (cut a.0 bytes) (n, spelling, rest) a.2 in
    let c : (length m.0.0 ≡ a.0) × (bytes ≡ m.0.0 ++ m.0.1) = cut_found a.0 bytes m.0.0 m.0.1 m.1 in
    let value : packed_value first m.0.0 ≡ n = ap (λ (p : ℕ × List ℕ × List ℕ). p.0) m.2 in
    let own : first ∷ m.0.0 ≡ spelling = ap (λ (p : ℕ × List ℕ × List ℕ). p.1) m.2 in
    let others : m.0.1 ≡ rest = ap (λ (p : ℕ × List ℕ × List ℕ). p.2) m.2 in
    let text : first ∷ bytes ≡ (first ∷ m.0.0) ++ m.0.1 = ap (λ (t : List ℕ). first ∷ t) c.1 in
    let is : IsPacked (first ∷ m.0.0) (packed_value first m.0.0) = (a.1 ∙ ap Some (sym c.0), refl) in
    (subst₂ IsPacked own value is, cc)

-- a spelling in front is read, whatever follows
pub packed_again : (n : ℕ) (spelling rest : List ℕ) → IsPacked spelling n → packed_front (spelling ++ rest) ≡ Some (n, spelling, rest)
unfolding packed_front
packed_again n [] rest is = absurd is
packed_again n (first ∷ value) rest is =
    and_then_again (behind first (value ++ rest)) (announced first) (length value) (n, first ∷ value, rest) is.0
    (map_again (parts first) (cut (length value) (value ++ rest)) (value, rest) (n, first ∷ value, rest) (cut_again (length value) value rest refl)
    (ap (λ (k : ℕ). (k, first ∷ value, rest)) (sym is.1)))
