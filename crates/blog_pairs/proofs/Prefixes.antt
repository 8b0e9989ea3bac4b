-- Columns whose values have no length in front.
use Rattle.std.proofs.Common.{◌≡◌, ◌≢◌, ℕ, Bool, true, false, nat_eq, List, [], ◌∷◌, length, option_and_then, Some, refl, ap, ◌∙◌, arith, eqb-true}
use Rattle.std.specs.List.{list_all}
use Rattle.std.proofs.lemmas.Bool.{and_parts, cond-false, cond-true, eqb-false, false≢true}
use Rattle.blog_row.specs.Column.{Rule, Plain, ByByte, ByPair, Fixed, Counted, column_types, rule_among, rule_storage, storage_by}
use Rattle.blog_row.proofs.ColumnTypes.{stored_by_more, stored_by_none}
use Rattle.blog_pairs.specs.Spelled.{prefix_of}

-- a type without metadata has no length
abbrev plain_fixed : Rule → Bool
plain_fixed (Plain (Fixed width)) = true
plain_fixed (Plain (Counted prefix)) = false
plain_fixed (ByByte storage) = true
plain_fixed (ByPair storage) = true

none_by : (rule : Rule) → plain_fixed rule ≡ true → prefix_of (rule_storage rule []) ≡ 0
none_by (Plain (Fixed width)) e = refl
none_by (Plain (Counted prefix)) e = absurd (false≢true e)
none_by (ByByte storage) e = refl
none_by (ByPair storage) e = refl

none_among : (types : List (ℕ × Rule)) (kind : ℕ) → list_all (λ (t : ℕ × Rule). plain_fixed t.1) types ≡ true
    → prefix_of (option_and_then (λ rule. rule_storage rule []) (rule_among types kind)) ≡ 0
none_among [] kind e = refl
none_among (t ∷ types) kind e = by_case (nat_eq kind t.0) refl (and_parts _ _ e) (none_among types kind)
  where
    by_case : (b : Bool) → nat_eq kind t.0 ≡ b → (plain_fixed t.1 ≡ true) × (list_all (λ (t : ℕ × Rule). plain_fixed t.1) types ≡ true)
        → (list_all (λ (t : ℕ × Rule). plain_fixed t.1) types ≡ true → prefix_of (option_and_then (λ rule. rule_storage rule []) (rule_among types kind)) ≡ 0)
        → prefix_of (option_and_then (λ rule. rule_storage rule []) (rule_among (t ∷ types) kind)) ≡ 0
    by_case true is parts later =
        ap (λ o. prefix_of (option_and_then (λ rule. rule_storage rule []) o)) (cond-true (nat_eq kind t.0) (Some t.1) (rule_among types kind) is) ∙ none_by t.1 parts.0
    by_case false is parts later =
        ap (λ o. prefix_of (option_and_then (λ rule. rule_storage rule []) o)) (cond-false (nat_eq kind t.0) (Some t.1) (rule_among types kind) is) ∙ later parts.1

no_prefix : (kind : ℕ) → prefix_of (storage_by kind []) ≡ 0
unfolding storage_by column_types
no_prefix kind = none_among column_types kind refl

pub prefix_none : (kind : ℕ) (metadata : List ℕ) → length metadata ≢ 1 → length metadata ≢ 2 → prefix_of (storage_by kind metadata) ≡ 0
prefix_none kind metadata one two = by_case (nat_eq (length metadata) 0) refl
  where
    by_case : (b : Bool) → nat_eq (length metadata) 0 ≡ b → prefix_of (storage_by kind metadata) ≡ 0
    by_case true is = ap prefix_of (stored_by_none kind metadata (eqb-true (length metadata) 0 is)) ∙ no_prefix kind
    by_case false is = let apart = eqb-false (length metadata) 0 is in ap prefix_of (stored_by_more kind metadata (omega arith))
