-- The bytes of a decimal without its sign.
use Rattle.std.proofs.Common.{◌≡◌, ℕ, zero, suc, ◌+◌, ◌-◌, ◌<◌, ◌≤◌, Bool, true, false, if◌then◌else◌, nat_lt, List, [], ◌∷◌, ◌++◌, length, take, set, get_or, map, refl, ap, sym, ◌∙◌, arith, add-one}
use Rattle.std.proofs.Math.Seq.{take-length, take-suc, take-suc-set}
use Rattle.std.proofs.lemmas.List.{get_or-map, length-map}
use Rattle.blog_value.specs.Decimals.{is_negative, plain_bytes}

-- a byte of a negative value or of one that isn't
abbrev pub plain_byte : Bool → ℕ → ℕ
plain_byte negative byte = if negative then 255 - byte else byte

pub length-plain : (bytes : List ℕ) → length (plain_bytes bytes) ≡ length bytes
unfolding plain_bytes
length-plain [] = refl
length-plain (first ∷ others) =
    elim (nat_lt first 128) as (λ b. length (if b then (127 - first) ∷ map (λ byte. 255 - byte) others else (first - 128) ∷ others) ≡ suc (length others)) [
      | true ↦ ap suc (length-map others (λ byte. 255 - byte))
      | false ↦ refl
    ]

-- each byte behind the first one
pub plain-behind : (bytes : List ℕ) (i : ℕ) → 1 ≤ i → i < length bytes → get_or (plain_bytes bytes) i 0 ≡ plain_byte (is_negative bytes) (get_or bytes i 0)
unfolding plain_bytes
plain-behind [] i behind within = absurd (omega arith)
plain-behind (first ∷ others) zero behind within = absurd (omega arith)
plain-behind (first ∷ others) (suc j) behind within =
    elim (nat_lt first 128) as (λ b. get_or (if b then (127 - first) ∷ map (λ byte. 255 - byte) others else (first - 128) ∷ others) (suc j) 0 ≡ plain_byte b (get_or others j 0)) [
      | true ↦ get_or-map (λ (byte : ℕ). 255 - byte) others j 0 0 (omega arith)
      | false ↦ refl
    ]

-- the first one
pub plain-first : (bytes : List ℕ) (byte : ℕ) → 0 < length bytes → byte ≡ (if is_negative bytes then 127 - get_or bytes 0 0 else get_or bytes 0 0 - 128)
    → byte ∷ [] ≡ take 1 (plain_bytes bytes)
unfolding plain_bytes
plain-first [] byte some is = absurd (omega (arith, some))
plain-first (first ∷ others) byte some is =
    ap (λ (b : ℕ). b ∷ []) is
    ∙ elim (nat_lt first 128) as (λ b. ((if b then 127 - first else first - 128) ∷ []) ≡ take 1 (if b then (127 - first) ∷ map (λ byte. 255 - byte) others else (first - 128) ∷ others)) [
      | true ↦ refl
      | false ↦ refl
    ]

-- one more byte is written
pub plain-next : (bytes plain : List ℕ) (i byte : ℕ) → 1 ≤ i → i < length bytes → i < length plain → byte ≡ plain_byte (is_negative bytes) (get_or bytes i 0)
    → take i plain ≡ take i (plain_bytes bytes) → take (i + 1) (set plain i byte) ≡ take (i + 1) (plain_bytes bytes)
plain-next bytes plain i byte behind within room is so_far =
    let there : i < length (plain_bytes bytes) = omega (arith, length-plain bytes) in
    let goal_at : take (suc i) (set plain i byte) ≡ take (suc i) (plain_bytes bytes) =
    take-suc-set plain i byte room
    ∙ ap (λ (front : List ℕ). front ++ (byte ∷ [])) so_far
    ∙ ap (λ (b : ℕ). take i (plain_bytes bytes) ++ (b ∷ [])) (is ∙ sym (plain-behind bytes i behind within))
    ∙ sym (take-suc (plain_bytes bytes) i 0 there) in
    rw add-one goal_at

-- all bytes are written
pub whole-plain : (bytes plain : List ℕ) → take (length bytes) plain ≡ take (length bytes) (plain_bytes bytes) → take (length bytes) plain ≡ plain_bytes bytes
whole-plain bytes plain front =
    front ∙ ap (λ (n : ℕ). take n (plain_bytes bytes)) (sym (length-plain bytes)) ∙ take-length (plain_bytes bytes)
