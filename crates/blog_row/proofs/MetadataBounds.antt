-- A type allows metadata exactly if its first byte is within the bounds that the tables have.
use Rattle.std.proofs.Common.{◌≡◌, ◌<◌, ◌≤◌, ℕ, suc, zero, Bool, true, false, ◌&&◌, cond, eqb, leb, List, [], ◌∷◌, take, get_or, Option, Some, None, option_map, option_and_then, unwrap_or, is_some, ◌==◌, refl, sym, subst, ◌∙◌, arith, leb-true, le-leb}
use Rattle.std.proofs.lemmas.Bool.{and_parts, and_from, eqb-true, eq-eqb, false_from_ne_true}
use Rattle.blog_row.specs.declared.type_tables.TheConstants.{LEAST_FIRST, MOST_FIRST}
use Rattle.blog_row.specs.Column.{Storage, Rule, Counted, when, is_one_of, counted_in, column_types, rule_among, rule_of, rule_len, rule_storage, metadata_len_of, storage_by, is_column}
use Rattle.blog_row.specs.code.LayoutReading.{column_here}
use Rattle.blog_row.proofs.Cutting.{none_is_not}

-- ---- tests of a byte

abbrev within : ℕ → ℕ → ℕ → Bool
within least most x = leb least x && leb x most

within_from : (least most x : ℕ) → least ≤ x → x ≤ most → within least most x ≡ true
within_from least most x low high = and_from (leb least x) (leb x most) (le-leb least x low) (le-leb x most high)

within_parts : (least most x : ℕ) → within least most x ≡ true → (least ≤ x) × (x ≤ most)
within_parts least most x e =
    let parts = and_parts (leb least x) (leb x most) e in
    (leb-true least x parts.0, leb-true x most parts.1)

-- tests that pass together are the same
same_test : (a b : Bool) → (a ≡ true → b ≡ true) → (b ≡ true → a ≡ true) → a ≡ b
same_test true b on back = sym (on refl)
same_test false true on back = back refl
same_test false false on back = refl

when_is : (t : Bool) (s : Storage) → is_some (when t s) ≡ t
when_is true s = refl
when_is false s = refl

-- each byte
any_byte : (x : ℕ) → x < 256 → true ≡ within 0 255 x
any_byte x h = sym (within_from 0 255 x (omega arith) (omega arith))

-- one alone
one_byte : (w x : ℕ) (s : Storage) → is_some (when (x == w) s) ≡ within w w x
one_byte w x s = when_is (x == w) s ∙ same_test (eqb x w) (within w w x)
    (λ e. let same : x ≡ w = eqb-true x w e in within_from w w x (omega arith) (omega arith))
    (λ e. let parts = within_parts w w x e in eq-eqb x w (omega (arith, parts.0, parts.1)))

-- up to a greatest one
low_byte : (most x : ℕ) (s : Storage) → is_some (when (leb x most) s) ≡ within 0 most x
low_byte most x s = when_is (leb x most) s ∙ same_test (leb x most) (within 0 most x)
    (λ e. within_from 0 most x (omega arith) (leb-true x most e))
    (λ e. le-leb x most (within_parts 0 most x e).1)

other : (x n : ℕ) → (x ≡ n → ⊥) → eqb x n ≡ false
other x n ne = false_from_ne_true (eqb x n) (λ e. ne (eqb-true x n e))

-- one to four
length_byte : (x : ℕ) → is_some (counted_in x) ≡ within 1 4 x
length_byte zero = refl
length_byte (suc zero) = refl
length_byte (suc (suc zero)) = refl
length_byte (suc (suc (suc zero))) = refl
length_byte (suc (suc (suc (suc zero)))) = refl
length_byte (suc (suc (suc (suc (suc n))))) =
    let x : ℕ = suc (suc (suc (suc (suc n)))) in
    let none : is_one_of (1 ∷ 2 ∷ 3 ∷ 4 ∷ []) x ≡ false = rw (other x 1 (λ e. omega (arith, e)), other x 2 (λ e. omega (arith, e)), other x 3 (λ e. omega (arith, e)), other x 4 (λ e. omega (arith, e))) refl in
    when_is (is_one_of (1 ∷ 2 ∷ 3 ∷ 4 ∷ []) x) (Counted x) ∙ none ∙ sym (false_from_ne_true (within 1 4 x) (λ e. omega (arith, (within_parts 1 4 x e).1)))

-- no less than another
high_byte : (least x : ℕ) (s : Storage) → x < 256 → is_some (when (leb least x) s) ≡ within least 255 x
high_byte least x s h = when_is (leb least x) s ∙ same_test (leb least x) (within least 255 x)
    (λ e. within_from least 255 x (leb-true least x e) (omega arith))
    (λ e. le-leb least x (within_parts least 255 x e).0)

-- ---- the rules

-- a decimal of fewer digits than stand behind the point isn't allowed
abbrev least_first : ℕ → ℕ → ℕ
least_first kind second = cond (kind == 246) second (get_or LEAST_FIRST kind 0)

abbrev IsBounded : ℕ → Rule → Type 0
IsBounded kind rule = (x y : ℕ) → x < 256 → is_some (rule_storage rule (take (rule_len rule) (x ∷ y ∷ []))) ≡ within (least_first kind y) (get_or MOST_FIRST kind 0) x

abbrev AreBounded : List (ℕ × Rule) → Type 0
AreBounded [] = Unit {0}
AreBounded (one ∷ others) = IsBounded one.0 one.1 × AreBounded others

-- by the first of them, or by the others
bounded_by : (t : Bool) (kind number : ℕ) (own rule : Rule) (others : Option Rule) → eqb kind number ≡ t → cond t (Some own) others ≡ Some rule
    → IsBounded number own → (others ≡ Some rule → IsBounded kind rule) → IsBounded kind rule
bounded_by true kind number own rule others same e bounded more =
    let is : own ≡ rule = cc in
    subst (λ n. IsBounded n rule) (sym (eqb-true kind number same)) (subst (IsBounded number) is bounded)
bounded_by false kind number own rule others same e bounded more = more e

bounded_among : (rules : List (ℕ × Rule)) → AreBounded rules → (kind : ℕ) (rule : Rule) → rule_among rules kind ≡ Some rule → IsBounded kind rule
bounded_among [] bounded kind rule e = none_is_not rule e
bounded_among (one ∷ others) bounded kind rule e = bounded_by (eqb kind one.0) kind one.0 one.1 rule (rule_among others kind) refl e bounded.0 (bounded_among others bounded.1 kind rule)

-- in the order of the types
all_bounded : AreBounded column_types
unfolding column_types
all_bounded = (
  λ x y h. any_byte x h,
  (
    λ x y h. any_byte x h,
    (
      λ x y h. any_byte x h,
      (
        λ x y h. one_byte 4 x _,
        (
          λ x y h. one_byte 8 x _,
          (
            λ x y h. any_byte x h,
            (
              λ x y h. any_byte x h,
              (
                λ x y h. any_byte x h,
                (
                  λ x y h. any_byte x h,
                  (
                    λ x y h. any_byte x h,
                    (
                      λ x y h. any_byte x h,
                      (
                        λ x y h. any_byte x h,
                        (
                          λ x y h. any_byte x h,
                          (
                            λ x y h. any_byte x h,
                            (
                              λ x y h. low_byte 6 x _,
                              (
                                λ x y h. low_byte 6 x _,
                                (
                                  λ x y h. low_byte 6 x _,
                                  (
                                    λ x y h. length_byte x,
                                    (
                                      λ x y h. high_byte y x _ h,
                                      (
                                        λ x y h. length_byte x,
                                        (
                                          λ x y h. any_byte x h,
                                          (λ x y h. length_byte x, tt),
                                        ),
                                      ),
                                    ),
                                  ),
                                ),
                              ),
                            ),
                          ),
                        ),
                      ),
                    ),
                  ),
                ),
              ),
            ),
          ),
        ),
      ),
    ),
  ),
)

pub allowed_is : (kind first second : ℕ) → first < 256 → is_some (metadata_len_of kind) ≡ true
    → is_column (column_here kind (first ∷ second ∷ [])) ≡ within (least_first kind second) (get_or MOST_FIRST kind 0) first
unfolding metadata_len_of storage_by
allowed_is kind first second h known = by_rule (rule_of kind) refl known
  where
    by_rule : (o : Option Rule) → rule_of kind ≡ o → is_some (option_map rule_len o) ≡ true
        → is_some (option_and_then (λ (rule : Rule). rule_storage rule (take (unwrap_or (option_map rule_len o) 0) (first ∷ second ∷ []))) o) ≡ within (least_first kind second) (get_or MOST_FIRST kind 0) first
    by_rule None e there = absurd (cc)
    by_rule (Some rule) e there = bounded_among column_types all_bounded kind rule e first second h
