-- The tables of types are what they say, by their 256 entries.
use Rattle.std.proofs.Common.{◌≡◌, ◌≢◌, ℕ, zero, suc, ◌+◌, ◌<◌, Bool, true, false, ◌&&◌, ◌||◌, T, eqb, List, [], ◌∷◌, length, take, get_or, Option, Some, None, option_and_then, is_some, ◌==◌, refl, sym, ap, ◌∙◌, subst, arith, eqb→eq}
use Rattle.std.proofs.lemmas.Bool.{eqb-true, and_parts}
use lib.Ieee.Fits.{and_l, and_r}
use Rattle.blog_row.specs.declared.type_tables.TheConstants.{METADATA_LENS, MARKED_LENS, PLAIN_WIDTHS, DIGITS_WIDTHS}
use Rattle.blog_row.specs.Column.{Storage, Fixed, Counted, Rule, ByByte, when, column_types, digits_width, rule_of, rule_storage, metadata_len_of, own_metadata_len, storage_by, storage_of, is_column}
use Rattle.blog_row.specs.code.LayoutReading.{column_here, marked_metadata_len}

-- each entry passes a test, with its number
abbrev are_right : (ℕ → ℕ → Bool) → ℕ → List ℕ → Bool
are_right test i [] = true
are_right test i (x ∷ xs) = test i x && are_right test (i + 1) xs

right_at : (test : ℕ → ℕ → Bool) (i : ℕ) (xs : List ℕ) → T (are_right test i xs) → (k : ℕ) → k < length xs → T (test (i + k) (get_or xs k 0))
right_at test i [] t k h = absurd (omega arith)
right_at test i (x ∷ xs) t zero h =
    let same : i ≡ i + zero = omega arith in
    subst (λ n. T (test n x)) same (and_l (test i x) (are_right test (i + 1) xs) t)
right_at test i (x ∷ xs) t (suc k) h =
    let same : i + 1 + k ≡ i + suc k = omega arith in
    subst (λ n. T (test n (get_or xs k 0))) same (right_at test (i + 1) xs (and_r (test i x) (are_right test (i + 1) xs) t) k (omega arith))

-- ---- bytes of metadata

abbrev is_len : ℕ → ℕ → Bool
is_len kind len = eqb len (own_metadata_len kind)

-- computed over all entries
pub own_len_at : (kind : ℕ) → kind < 256 → get_or METADATA_LENS kind 0 ≡ own_metadata_len kind
unfolding metadata_len_of column_types
own_len_at kind h =
    let same : 0 + kind ≡ kind = omega arith in
    eqb→eq (get_or METADATA_LENS kind 0) (own_metadata_len kind) (subst (λ n. T (is_len n (get_or METADATA_LENS kind 0))) same (right_at is_len 0 METADATA_LENS tt kind h))

abbrev is_marked_len : ℕ → ℕ → Bool
is_marked_len kind len = eqb len (marked_metadata_len kind)

-- computed over all entries
pub marked_len_at : (kind : ℕ) → kind < 256 → get_or MARKED_LENS kind 0 ≡ marked_metadata_len kind
unfolding metadata_len_of column_types
marked_len_at kind h =
    let same : 0 + kind ≡ kind = omega arith in
    eqb→eq (get_or MARKED_LENS kind 0) (marked_metadata_len kind) (subst (λ n. T (is_marked_len n (get_or MARKED_LENS kind 0))) same (right_at is_marked_len 0 MARKED_LENS tt kind h))

-- ---- widths

-- the storage is that of so many bytes
abbrev is_fixed : ℕ → Option Storage → Bool
is_fixed width None = false
is_fixed width (Some (Fixed own)) = eqb width own
is_fixed width (Some (Counted prefix)) = false

fixed_is : (width : ℕ) (o : Option Storage) → T (is_fixed width o) → o ≡ Some (Fixed width)
fixed_is width None t = absurd t
fixed_is width (Some (Fixed own)) t = let same : width ≡ own = eqb→eq width own t in ap (λ n. Some (Fixed n)) (sym same)
fixed_is width (Some (Counted prefix)) t = absurd t

-- a type whose metadata repeats how many bytes its values have: FLOAT or DOUBLE
abbrev is_repeated : ℕ → ℕ → Bool
is_repeated kind width = (eqb kind 4 && eqb width 4) || (eqb kind 5 && eqb width 8)

abbrev is_plain : ℕ → ℕ → Bool
is_plain kind width = eqb (own_metadata_len kind) 0 && is_fixed width (storage_by kind [])

abbrev is_width : ℕ → ℕ → Bool
is_width kind width = eqb width 0 || (is_plain kind width || is_repeated kind width)

-- one of two tests passes, and it isn't the first
second_of : (width : ℕ) (a b : Bool) → eqb width 0 ≡ a → width ≢ 0 → T (a || b) → T b
second_of width true b e some t = absurd (some (eqb-true width 0 e))
second_of width false b e some t = t

-- the column of a type that has no metadata
plain_column : (kind width : ℕ) → T (is_plain kind width) → (metadata : List ℕ) → storage_of (column_here kind metadata) ≡ Some (Fixed width)
plain_column kind width t metadata =
    let none : own_metadata_len kind ≡ 0 = eqb→eq (own_metadata_len kind) 0 (and_l (eqb (own_metadata_len kind) 0) (is_fixed width (storage_by kind [])) t) in
    ap (λ n. storage_by kind (take n metadata)) none ∙ fixed_is width (storage_by kind []) (and_r (eqb (own_metadata_len kind) 0) (is_fixed width (storage_by kind [])) t)

-- the rule of metadata that repeats the width
abbrev repeated : ℕ → Rule
repeated width = ByByte (λ x. when (x == width) (Fixed width))

allowed_is : (t : Bool) (s : Storage) → is_some (when t s) ≡ true → when t s ≡ Some s
allowed_is true s e = refl
allowed_is false s e = absurd (cc)

repeated_storage : (width : ℕ) (metadata : List ℕ) → is_some (rule_storage (repeated width) metadata) ≡ true → rule_storage (repeated width) metadata ≡ Some (Fixed width)
repeated_storage width [] e = absurd (cc)
repeated_storage width (x ∷ []) e = allowed_is (x == width) (Fixed width) e
repeated_storage width (x ∷ y ∷ more) e = absurd (cc)

stored_repeated : (kind width : ℕ) (metadata : List ℕ) → rule_of kind ≡ Some (repeated width) → is_some (storage_by kind metadata) ≡ true → storage_by kind metadata ≡ Some (Fixed width)
unfolding storage_by
stored_repeated kind width metadata rule e =
    let same : storage_by kind metadata ≡ rule_storage (repeated width) metadata = ap (option_and_then (λ (r : Rule). rule_storage r metadata)) rule in
    same ∙ repeated_storage width metadata (sym (ap is_some same) ∙ e)

float_rule : rule_of 4 ≡ Some (repeated 4)
unfolding column_types
float_rule = refl

double_rule : rule_of 5 ≡ Some (repeated 8)
unfolding column_types
double_rule = refl

repeated_rule : (kind width : ℕ) (a b : Bool) → (eqb kind 4 && eqb width 4) ≡ a → (eqb kind 5 && eqb width 8) ≡ b → T (a || b) → rule_of kind ≡ Some (repeated width)
repeated_rule kind width true b e f t =
    let parts = and_parts (eqb kind 4) (eqb width 4) e in
    let is : kind ≡ 4 = eqb-true kind 4 parts.0 in
    let long : width ≡ 4 = eqb-true width 4 parts.1 in
    ap rule_of is ∙ float_rule ∙ ap (λ n. Some (repeated n)) (sym long)
repeated_rule kind width false true e f t =
    let parts = and_parts (eqb kind 5) (eqb width 8) f in
    let is : kind ≡ 5 = eqb-true kind 5 parts.0 in
    let long : width ≡ 8 = eqb-true width 8 parts.1 in
    ap rule_of is ∙ double_rule ∙ ap (λ n. Some (repeated n)) (sym long)
repeated_rule kind width false false e f t = absurd t

-- the column of a type, by the test that passes
fixed_column : (kind width : ℕ) (a : Bool) → is_plain kind width ≡ a → T (a || is_repeated kind width) → (metadata : List ℕ) → is_column (column_here kind metadata) ≡ true → storage_of (column_here kind metadata) ≡ Some (Fixed width)
fixed_column kind width true e t metadata known = plain_column kind width (subst T (sym e) tt) metadata
fixed_column kind width false e t metadata known =
    let rule = repeated_rule kind width (eqb kind 4 && eqb width 4) (eqb kind 5 && eqb width 8) refl refl t in
    stored_repeated kind width (take (own_metadata_len kind) metadata) rule known

-- computed over all entries
pub width_at : (kind : ℕ) → kind < 256 → get_or PLAIN_WIDTHS kind 0 ≢ 0 → (metadata : List ℕ) → is_column (column_here kind metadata) ≡ true → storage_of (column_here kind metadata) ≡ Some (Fixed (get_or PLAIN_WIDTHS kind 0))
unfolding metadata_len_of storage_by column_types
width_at kind h some metadata known =
    let width = get_or PLAIN_WIDTHS kind 0 in
    let same : 0 + kind ≡ kind = omega arith in
    let right : T (is_width kind width) = subst (λ n. T (is_width n width)) same (right_at is_width 0 PLAIN_WIDTHS tt kind h) in
    fixed_column kind width (is_plain kind width) refl (second_of width (eqb width 0) (is_plain kind width || is_repeated kind width) refl some right) metadata known

-- ---- digits

abbrev is_digits : ℕ → ℕ → Bool
is_digits digits width = eqb width (digits_width digits)

-- computed over all entries
pub digits_at : (digits : ℕ) → digits < 256 → get_or DIGITS_WIDTHS digits 0 ≡ digits_width digits
digits_at digits h =
    let same : 0 + digits ≡ digits = omega arith in
    eqb→eq (get_or DIGITS_WIDTHS digits 0) (digits_width digits) (subst (λ n. T (is_digits n (get_or DIGITS_WIDTHS digits 0))) same (right_at is_digits 0 DIGITS_WIDTHS tt digits h))
