-- What the table of column types says of the metadata of a type. No type is named: it holds whatever the table has.
use Rattle.std.proofs.Common.{◌≡◌, ◌<◌, ◌≤◌, ℕ, true, List, [], ◌∷◌, length, get_or, Option, Some, None, option_map, option_and_then, is_some, refl, ap, ◌∙◌, arith}
use Rattle.std.proofs.lemmas.List.{nil_from_length}
use Rattle.blog_row.specs.Column.{Column, Storage, Rule, Plain, ByByte, ByPair, rule_of, rule_len, rule_storage, metadata_len_of, storage_by, storage_of, is_column}
use Rattle.blog_row.proofs.Cutting.{none_is_not, and_then_found}

-- ---- the length of the metadata

-- metadata by which a rule stores values has the rule's length
rule_stores : (rule : Rule) (metadata : List ℕ) (s : Storage) → rule_storage rule metadata ≡ Some s → rule_len rule ≡ length metadata
rule_stores (Plain storage) [] s e = refl
rule_stores (ByByte storage) (x ∷ []) s e = refl
rule_stores (ByPair storage) (x ∷ y ∷ []) s e = refl
rule_stores rule metadata s e = none_is_not s e

-- a column that is stored has as much metadata as its type says
pub stored_len : (kind : ℕ) (metadata : List ℕ) (s : Storage) → storage_by kind metadata ≡ Some s → metadata_len_of kind ≡ Some (length metadata)
unfolding storage_by metadata_len_of
stored_len kind metadata s e =
    let found : (rule : Rule) × (rule_of kind ≡ Some rule) × (rule_storage rule metadata ≡ Some s) = and_then_found (λ (rule : Rule). rule_storage rule metadata) (rule_of kind) s e in
    ap (option_map rule_len) found.1 ∙ ap Some (rule_stores found.0 metadata s found.2)

-- the same of a column of the profile
pub column_len : (column : Column) → is_column column ≡ true → metadata_len_of column.kind ≡ Some (length column.metadata)
column_len column e = by_case (storage_of column) refl e
  where
    by_case : (o : Option Storage) → storage_of column ≡ o → is_some o ≡ true → metadata_len_of column.kind ≡ Some (length column.metadata)
    by_case None found h = absurd (cc)
    by_case (Some s) found h = stored_len column.kind column.metadata s found

-- a type of the profile has at most two bytes of metadata
rule_few : (rule : Rule) → rule_len rule ≤ 2
rule_few (Plain storage) = omega arith
rule_few (ByByte storage) = omega arith
rule_few (ByPair storage) = omega arith

pub len_few : (kind len : ℕ) → metadata_len_of kind ≡ Some len → len ≤ 2
unfolding metadata_len_of
len_few kind len e = by_rule (rule_of kind) e
  where
    by_rule : (o : Option Rule) → option_map rule_len o ≡ Some len → len ≤ 2
    by_rule None h = none_is_not len h
    by_rule (Some rule) h = let same : rule_len rule ≡ len = cc in omega (arith, rule_few rule)

-- ---- metadata of so many bytes

-- of no byte
pub stored_by_none : (kind : ℕ) (metadata : List ℕ) → length metadata ≡ 0 → storage_by kind metadata ≡ storage_by kind []
stored_by_none kind metadata e = ap (storage_by kind) (nil_from_length metadata e)

-- which is allowed where the type has none
rule_without : (rule : Rule) (metadata : List ℕ) → rule_len rule ≡ 0 → length metadata ≡ 0 → is_some (rule_storage rule metadata) ≡ true
rule_without (Plain storage) [] none e = refl
rule_without (Plain storage) (x ∷ more) none e = absurd (omega arith)
rule_without (ByByte storage) metadata none e = absurd (omega arith)
rule_without (ByPair storage) metadata none e = absurd (omega arith)

pub stored_without : (kind : ℕ) (metadata : List ℕ) → metadata_len_of kind ≡ Some (length metadata) → length metadata ≡ 0 → is_some (storage_by kind metadata) ≡ true
unfolding storage_by metadata_len_of
stored_without kind metadata len none = by_rule (rule_of kind) len
  where
    by_rule : (o : Option Rule) → option_map rule_len o ≡ Some (length metadata) → is_some (option_and_then (λ (rule : Rule). rule_storage rule metadata) o) ≡ true
    by_rule None h = none_is_not (length metadata) h
    by_rule (Some rule) h = let same : rule_len rule ≡ length metadata = cc in rule_without rule metadata (same ∙ none) none

-- of one byte
pub stored_by_byte : (kind : ℕ) (metadata : List ℕ) → length metadata ≡ 1 → storage_by kind metadata ≡ storage_by kind (get_or metadata 0 0 ∷ [])
stored_by_byte kind [] e = absurd (omega arith)
stored_by_byte kind (x ∷ []) e = refl
stored_by_byte kind (x ∷ y ∷ more) e = absurd (omega arith)

-- of two bytes
pub stored_by_pair : (kind : ℕ) (metadata : List ℕ) → length metadata ≡ 2 → storage_by kind metadata ≡ storage_by kind (get_or metadata 0 0 ∷ get_or metadata 1 0 ∷ [])
stored_by_pair kind [] e = absurd (omega arith)
stored_by_pair kind (x ∷ []) e = absurd (omega arith)
stored_by_pair kind (x ∷ y ∷ []) e = refl
stored_by_pair kind (x ∷ y ∷ z ∷ more) e = absurd (omega arith)

-- of more, which no type has
rule_of_more : (rule : Rule) (metadata : List ℕ) → 2 < length metadata → rule_storage rule metadata ≡ None
rule_of_more rule [] h = absurd (omega arith)
rule_of_more rule (x ∷ []) h = absurd (omega arith)
rule_of_more rule (x ∷ y ∷ []) h = absurd (omega arith)
rule_of_more (Plain storage) (x ∷ y ∷ z ∷ more) h = refl
rule_of_more (ByByte storage) (x ∷ y ∷ z ∷ more) h = refl
rule_of_more (ByPair storage) (x ∷ y ∷ z ∷ more) h = refl

pub stored_by_more : (kind : ℕ) (metadata : List ℕ) → 2 < length metadata → storage_by kind metadata ≡ None
unfolding storage_by
stored_by_more kind metadata h = by_rule (rule_of kind)
  where
    by_rule : (o : Option Rule) → option_and_then (λ (rule : Rule). rule_storage rule metadata) o ≡ None
    by_rule None = refl
    by_rule (Some rule) = rule_of_more rule metadata h
