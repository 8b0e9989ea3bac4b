-- Numbers of six bits as characters, by what is added to each.
use Rattle.std.proofs.Common.{◌≡◌, ℕ, zero, suc, ◌+◌, ◌-◌, ◌*◌, ◌/◌, ◌%◌, ◌<◌, ◌≤◌, Bool, false, cond, ltb, leb, eqb, ◌&&◌, List, [], ◌∷◌, map, length, get_or, replicate, refl, sym, ap, subst, ◌∙◌, arith, w8}
use Rattle.std.proofs.lemmas.Bool.{and_parts, eqb-true, ltb-true, lt-leb}
use Rattle.std.proofs.lemmas.List.{length-map}
use Rattle.std.proofs.lemmas.Simd.{swz_l, SwzOk, SwzOk-from_below}
use lib.Lanes.{Each1, zip2, sel_l, top}
use Rattle.base64.specs.Engines.{standard}
use Rattle.base64.specs.GeneralPurpose.{engine_symbols}
use Rattle.base64.proofs.Tables.{all_below_at}
use Rattle.blog_sql.specs.declared.full_line.TheConstants.{OFFSETS}

-- ---- the class of a number

-- all ones where a is below b
abbrev below : ℕ → ℕ → ℕ
below a b = cond (ltb a b) 255 0

abbrev less : ℕ → ℕ → ℕ
less a b = (a + (256 - b)) % 256

abbrev class : ℕ → ℕ
class x = cond (top 7 (below x 26)) 13 (less (cond (top 7 (below x 51)) 51 x) 51)

abbrev classes : ℕ → List ℕ → List ℕ
classes n v =
    sel_l (map (top 7) (zip2 below v (replicate n 26))) (replicate n 13)
    (zip2 less (sel_l (map (top 7) (zip2 below v (replicate n 51))) (replicate n 51) v) (replicate n 51))

-- lane by lane
by-lanes : (n : ℕ) (v : List ℕ) → length v ≡ n → classes n v ≡ map class v
by-lanes zero [] size = refl
by-lanes zero (x ∷ v) size = absurd (omega arith)
by-lanes (suc n) [] size = absurd (omega arith)
by-lanes (suc n) (x ∷ v) size = ap (λ l. class x ∷ l) (by-lanes n v (omega arith))

-- ---- computed over all 64 numbers

-- the offset of its class turns a number into its symbol
abbrev is-right : ℕ → Bool
is-right x = ltb (class x) 16 && eqb ((x + get_or OFFSETS (class x) 0) % 256) (get_or (engine_symbols standard) x 0)

right : (x : ℕ) → x < 64 → (class x < 16) × ((x + get_or OFFSETS (class x) 0) % 256 ≡ get_or (engine_symbols standard) x 0)
right x h =
    let parts = and_parts (ltb (class x) 16) (eqb ((x + get_or OFFSETS (class x) 0) % 256) (get_or (engine_symbols standard) x 0)) (all_below_at is-right 64 x refl h) in
    (ltb-true (class x) 16 parts.0, eqb-true ((x + get_or OFFSETS (class x) 0) % 256) (get_or (engine_symbols standard) x 0) parts.1)

-- ---- the lanes

-- no class has the bit that makes a look-up 0
few : (v : List ℕ) → Each1 (λ x. x < 64) v → Each1 (λ j. j < 16) (map class v)
few [] are = tt
few (x ∷ v) are = ((right x are.0).0, few v are.1)

abbrev plus : ℕ → ℕ → ℕ
plus a b = (a + b) % 256

-- from lane i on
looked-up : (i : ℕ) (v : List ℕ) → Each1 (λ x. x < 64) v → i + length v ≤ 16 → zip2 plus v (swz_l w8 16 OFFSETS i (map class v)) ≡ map (λ x. get_or (engine_symbols standard) x 0) v
looked-up i [] are room = refl
looked-up i (x ∷ v) are room =
    let it = right x are.0 in
    let here : 16 * (i / 16) + class x ≡ class x = omega (arith, it.0) in
    let seen : leb 128 (class x) ≡ false = lt-leb 128 (class x) (omega (arith, it.0)) in
    let first : cond (leb 128 (class x)) 0 (get_or OFFSETS (16 * (i / 16) + class x) 0) ≡ get_or OFFSETS (class x) 0 = λ k. cond (seen k) 0 (get_or OFFSETS (here k) 0) in
    (λ k. plus x (first k) ∷ looked-up (suc i) v are.1 (omega arith) k) ∙ ap (λ c. c ∷ map (λ x. get_or (engine_symbols standard) x 0) v) it.1

pub classes-fit : (v : List ℕ) → length v ≡ 16 → Each1 (λ x. x < 64) v → SwzOk w8 16 16 0 (classes 16 v)
classes-fit v size are =
    let is = by-lanes 16 v size in
    let long : 0 + length (map class v) ≤ 16 = omega (arith, length-map v class, size) in
    subst (SwzOk w8 16 16 0) (sym is) (SwzOk-from_below w8 16 1 16 0 (map class v) refl long (few v are))

pub characters-of : (v : List ℕ) → length v ≡ 16 → Each1 (λ x. x < 64) v → zip2 plus v (swz_l w8 16 OFFSETS 0 (classes 16 v)) ≡ map (λ x. get_or (engine_symbols standard) x 0) v
characters-of v size are = ap (λ js. zip2 plus v (swz_l w8 16 OFFSETS 0 js)) (by-lanes 16 v size) ∙ looked-up 0 v are (let long : 0 + length v ≤ 16 = omega (arith, size) in long)
