-- The digits of a decimal, in groups.
use Rattle.std.proofs.Common.{◌≡◌, ℕ, zero, suc, ◌+◌, ◌*◌, ◌/◌, ◌%◌, ◌^◌, ◌<◌, ◌≤◌, Bool, true, false, if◌then◌else◌, nat_eq, nat_lt, List, [], ◌∷◌, ◌++◌, length, refl, ap, sym, subst, ◌∙◌, arith, add-one, append_assoc, inl, inr, eq-zero-or-pos, length-append}
use Rattle.std.specs.Fmt.{decimal}
use Rattle.std.specs.List.{list_all, range_with_len}
use Rattle.std.proofs.Math.Nat.{pow-suc}
use Rattle.std.proofs.lemmas.List.{append-nil, nil_from_length}
use Rattle.std.proofs.lemmas.Bool.{and_parts, ltb-true, ne_eqb}
use Rattle.std.proofs.lemmas.Fmt.{decimal_digit, decimal_nonempty, decimal_step}
use Rattle.blog_value.specs.Digits.{in_digits, padded}
use Rattle.blog_value.specs.Decimals.{group_at, nines, nines_fit, or_zero, without_zeros}

-- ---- groups

pub nines-none : (place : ℕ) (bytes : List ℕ) → nines 0 place bytes ≡ []
unfolding nines
nines-none place bytes = refl

pub nines-more : (i place : ℕ) (bytes : List ℕ) → nines (i + 1) place bytes ≡ nines i place bytes ++ padded 9 (group_at 9 (place + 4 * i) bytes)
unfolding nines
nines-more i place bytes = rw add-one refl

-- what holds of a range holds of each number in it
pub in-range : (test : ℕ → Bool) (a n i : ℕ) → list_all test (range_with_len a n) ≡ true → i < n → test (a + i) ≡ true
in-range test a zero i all within = absurd (omega arith)
in-range test a (suc n) zero all within =
    let here : a ≡ a + 0 = omega arith in
    subst (λ (k : ℕ). test k ≡ true) here (and_parts (test a) _ all).0
in-range test a (suc n) (suc j) all within =
    let here : a + 1 + j ≡ a + suc j = omega arith in
    subst (λ (k : ℕ). test k ≡ true) here (in-range test (a + 1) n j (and_parts (test a) _ all).1 (omega arith))

pub nine-fits : (count place i : ℕ) (bytes : List ℕ) → nines_fit count place bytes ≡ true → i < count → group_at 9 (place + 4 * i) bytes < 10 ^ 9
nine-fits count place i bytes all within =
    let test : ℕ → Bool = λ k. nat_lt (group_at 9 (place + 4 * k) bytes) (10 ^ 9) in
    let here : 0 + i ≡ i = omega arith in
    ltb-true _ _ (subst (λ (k : ℕ). test k ≡ true) here (in-range test 0 count i all within))

-- ---- zeros in front

-- behind zeros alone
pub zeros-then : (a b : List ℕ) → without_zeros a ≡ [] → without_zeros (a ++ b) ≡ without_zeros b
unfolding without_zeros
zeros-then [] b none = refl
zeros-then (digit ∷ a) b none =
    elim (nat_eq digit 48) as (λ z. (if z then without_zeros a else digit ∷ a) ≡ [] → (if z then without_zeros (a ++ b) else digit ∷ (a ++ b)) ≡ without_zeros b) [
      | true ↦ λ same. zeros-then a b same
      | false ↦ λ same. cc
    ] none

-- behind a digit that isn't a zero in front
pub digits-then : (a b : List ℕ) → 0 < length (without_zeros a) → without_zeros (a ++ b) ≡ without_zeros a ++ b
unfolding without_zeros
digits-then [] b some = absurd (omega (arith, some))
digits-then (digit ∷ a) b some =
    elim (nat_eq digit 48) as (λ z. 0 < length (if z then without_zeros a else digit ∷ a) → (if z then without_zeros (a ++ b) else digit ∷ (a ++ b)) ≡ (if z then without_zeros a else digit ∷ a) ++ b) [
      | true ↦ λ same. digits-then a b same
      | false ↦ λ same. refl
    ] some

-- a digit that isn't a zero
one-digit : (digit : ℕ) → nat_eq digit 48 ≡ false → without_zeros (digit ∷ []) ≡ digit ∷ []
unfolding without_zeros
one-digit digit differs = subst (λ (z : Bool). (if z then [] else digit ∷ []) ≡ digit ∷ []) (sym differs) refl

-- zero is zeros
pub zeros-alone : (width : ℕ) → without_zeros (padded width 0) ≡ []
unfolding in_digits without_zeros
zeros-alone zero = refl
zeros-alone (suc width) = zeros-then (padded width 0) (48 ∷ []) (zeros-alone width)

-- the last digit is behind the others
last-digit : (width n : ℕ) → padded (suc width) n ≡ padded width (n / 10) ++ ((48 + n % 10) ∷ [])
unfolding in_digits
last-digit width n = refl

no-digit : (n : ℕ) → padded 0 n ≡ []
unfolding in_digits
no-digit n = refl

-- any other number without zeros in front is as it is written
pub without-zeros-in-front : (width n : ℕ) → 0 < n → n < 10 ^ width → n < 2 ^ 64 → without_zeros (padded width n) ≡ decimal n
without-zeros-in-front zero n some fits small = absurd (omega (arith, fits))
without-zeros-in-front (suc width) n some fits small =
    elim (eq-zero-or-pos (n / 10)) [
      | inl none ↦
          let same : n % 10 ≡ n = omega (arith, none) in
          let differs : nat_eq (48 + n) 48 ≡ false = ne_eqb (48 + n) 48 (λ e. omega (arith, e, some)) in
          let zeros : without_zeros (padded width (n / 10)) ≡ [] = ap (λ (m : ℕ). without_zeros (padded width m)) none ∙ zeros-alone width in
          ap without_zeros (last-digit width n)
          ∙ zeros-then (padded width (n / 10)) ((48 + n % 10) ∷ []) zeros
          ∙ ap (λ (m : ℕ). without_zeros ((48 + m) ∷ [])) same
          ∙ one-digit (48 + n) differs ∙ sym (decimal_digit n (omega (arith, none)))
      | inr more ↦
          let front : without_zeros (padded width (n / 10)) ≡ decimal (n / 10) =
          without-zeros-in-front width (n / 10) more (omega (arith, fits, pow-suc 10 width)) (omega (arith, small)) in
          let there : 0 < length (without_zeros (padded width (n / 10))) = omega (arith, ap length front, decimal_nonempty (n / 10) (omega (arith, small))) in
          ap without_zeros (last-digit width n)
          ∙ digits-then (padded width (n / 10)) ((48 + n % 10) ∷ []) there
          ∙ ap (λ (digits : List ℕ). digits ++ ((48 + n % 10) ∷ [])) front ∙ sym (decimal_step n (omega (arith, more)) small)
    ]

-- ---- groups that are appended

-- a group behind digits that are written
pub group-behind : (front digits part old new : List ℕ) → old ≡ front ++ without_zeros digits → length front < length old → new ≡ old ++ part
    → new ≡ front ++ without_zeros (digits ++ part)
group-behind front digits part old new so_far longer grown =
    let some : 0 < length (without_zeros digits) = omega (arith, ap length so_far, length-append front (without_zeros digits), longer) in
    grown ∙ ap (λ (items : List ℕ). items ++ part) so_far ∙ append_assoc front (without_zeros digits) part
    ∙ ap (λ (items : List ℕ). front ++ items) (sym (digits-then digits part some))

-- the same, if only zeros came before
pub group-in-front : (front digits part shown old new : List ℕ) → old ≡ front ++ without_zeros digits → length old ≤ length front → without_zeros part ≡ shown
    → new ≡ old ++ shown → new ≡ front ++ without_zeros (digits ++ part)
group-in-front front digits part shown old new so_far short is grown =
    let none : without_zeros digits ≡ [] = nil_from_length (without_zeros digits) (omega (arith, ap length so_far, length-append front (without_zeros digits), short)) in
    grown ∙ ap (λ (items : List ℕ). items ++ shown) so_far ∙ append_assoc front (without_zeros digits) shown
    ∙ ap (λ (zeros : List ℕ). front ++ (zeros ++ shown)) none
    ∙ ap (λ (items : List ℕ). front ++ items) (sym (zeros-then digits part none ∙ is))

-- zeros alone, behind zeros alone
pub group-of-zeros : (front digits part old : List ℕ) → old ≡ front ++ without_zeros digits → length old ≤ length front → without_zeros part ≡ []
    → old ≡ front ++ without_zeros (digits ++ part)
group-of-zeros front digits part old so_far short is =
    let none : without_zeros digits ≡ [] = nil_from_length (without_zeros digits) (omega (arith, ap length so_far, length-append front (without_zeros digits), short)) in
    so_far ∙ ap (λ (items : List ℕ). front ++ items) (none ∙ sym (zeros-then digits part none ∙ is))

-- one more group of nine
pub nine-behind : (front lead new : List ℕ) (i place group : ℕ) (bytes : List ℕ) → group ≡ group_at 9 (place + 4 * i) bytes
    → new ≡ front ++ without_zeros ((lead ++ nines i place bytes) ++ padded 9 group) → new ≡ front ++ without_zeros (lead ++ nines (i + 1) place bytes)
nine-behind front lead new i place group bytes is grown =
    grown
    ∙ ap (λ (digits : List ℕ). front ++ without_zeros digits)
    (append_assoc lead (nines i place bytes) (padded 9 group)
    ∙ ap (λ (digits : List ℕ). lead ++ digits) (ap (λ (n : ℕ). nines i place bytes ++ padded 9 n) is ∙ sym (nines-more i place bytes)))

-- a zero, if nothing else is written
pub zero-alone : (front digits old new : List ℕ) → old ≡ front ++ without_zeros digits → length old ≡ length front → new ≡ old ++ (48 ∷ [])
    → new ≡ front ++ or_zero (without_zeros digits)
zero-alone front digits old new so_far same grown =
    let none : without_zeros digits ≡ [] = nil_from_length (without_zeros digits) (omega (arith, ap length so_far, length-append front (without_zeros digits), same)) in
    grown ∙ ap (λ (items : List ℕ). items ++ (48 ∷ [])) so_far ∙ append_assoc front (without_zeros digits) (48 ∷ [])
    ∙ ap (λ (zeros : List ℕ). front ++ (zeros ++ (48 ∷ []))) none
    ∙ ap (λ (zeros : List ℕ). front ++ or_zero zeros) (sym none)

or-zero-is : (digits : List ℕ) → 0 < length digits → digits ≡ or_zero digits
or-zero-is [] some = absurd (omega (arith, some))
or-zero-is (digit ∷ digits) some = refl

pub no-zero : (front digits old : List ℕ) → old ≡ front ++ without_zeros digits → (length old ≡ length front → ⊥) → old ≡ front ++ or_zero (without_zeros digits)
no-zero front digits old so_far differs =
    let some : 0 < length (without_zeros digits) =
    elim (eq-zero-or-pos (length (without_zeros digits))) [
      | inl none ↦ absurd (differs (omega (arith, none, ap length so_far, length-append front (without_zeros digits))))
      | inr more ↦ more
    ] in
    so_far ∙ ap (λ (items : List ℕ). front ++ items) (or-zero-is (without_zeros digits) some)

-- what is left over, in front of the groups of nine
pub lead-alone : (front new : List ℕ) (width group place : ℕ) (bytes : List ℕ) → group ≡ group_at width 0 bytes
    → new ≡ front ++ without_zeros ([] ++ padded width group) → new ≡ front ++ without_zeros (padded width (group_at width 0 bytes) ++ nines 0 place bytes)
lead-alone front new width group place bytes is grown =
    grown
    ∙ ap (λ (n : ℕ). front ++ without_zeros (padded width n)) is
    ∙ ap (λ (digits : List ℕ). front ++ without_zeros digits)
    (sym (ap (λ (rest : List ℕ). padded width (group_at width 0 bytes) ++ rest) (nines-none place bytes) ∙ append-nil (padded width (group_at width 0 bytes))))
