-- How the code walks over an image by positions, which may lie past the bytes.
use Rattle.std.proofs.Common.{◌≡◌, ◌≢◌, ◌<◌, ◌≤◌, ℕ, zero, suc, ◌+◌, ◌-◌, ◌/◌, ◌%◌, ◌^◌, Bool, true, false, leb, eqb, List, [], ◌∷◌, length, take, drop, get_or, Option, Some, None, option_and_then, option_map, refl, sym, ap, ◌∙◌, subst, arith, le-leb, length-append, length-drop, take_at}
use Rattle.std.specs.Prelude.{IfSome}
use Rattle.std.proofs.lemmas.Bool.{cond-true, cond-false, lt-leb, eq-eqb, leb-true, leb-false}
use Rattle.std.proofs.lemmas.List.{drop-drop}
use Rattle.byteorder.specs.Endian.{little_number}
use Rattle.byteorder.specs.Numbers.{little_from-take}
use Rattle.blog_row.specs.Checks.{cut}
use Rattle.blog_row.specs.Column.{Column, Layout, Storage, Fixed, Counted, storage_of, value_stored, value_front}
use Rattle.blog_row.specs.Image.{Row, bitmap_len, is_marked, IsImage, IsSomeImage, values_front, image_front, image_len_of}
use Rattle.blog_row.specs.code.ImageView.{AreNull}
use Rattle.blog_row.specs.code.PositionView.{from_position, EndsAt, behind_from}
use Rattle.blog_row.proofs.Cutting.{map_found}
use Rattle.blog_row.proofs.Images.{image_found}
use Rattle.blog_row.proofs.Walking.{eight_null, first_null, first_there, front_is, nulls_cut}

-- ---- positions

-- a position within the bytes
pub position_within : (at : ℕ) (bytes : List ℕ) → at ≤ length bytes → from_position at bytes ≡ Some (drop at bytes)
position_within at bytes h = cond-true (leb at (length bytes)) _ _ (le-leb at (length bytes) h)

-- and one past them
pub position_past : (at : ℕ) (bytes : List ℕ) → length bytes < at → from_position at bytes ≡ None
position_past at bytes h = cond-false (leb at (length bytes)) _ _ (lt-leb at (length bytes) h)

-- the bytes behind those that are cut off
pub position_cut : (at : ℕ) (bytes : List ℕ) → from_position at bytes ≡ option_map (λ p. p.1) (cut at bytes)
position_cut at bytes = by_case (leb at (length bytes)) refl
  where
    by_case : (t : Bool) → leb at (length bytes) ≡ t → from_position at bytes ≡ option_map (λ p. p.1) (cut at bytes)
    by_case true e = cond-true (leb at (length bytes)) _ _ e ∙ sym (ap (option_map (λ p. p.1)) (cond-true (leb at (length bytes)) (Some (take at bytes, drop at bytes)) None e))
    by_case false e = cond-false (leb at (length bytes)) _ _ e ∙ sym (ap (option_map (λ p. p.1)) (cond-false (leb at (length bytes)) (Some (take at bytes, drop at bytes)) None e))

-- ---- the bytes behind a row

-- the bytes behind the values that are read
abbrev pub rest_of : Option (Row × List ℕ) → Option (List ℕ)
rest_of o = option_map (λ r. r.1) o

-- one more value in front of a row
abbrev pub with_first : Option (List ℕ) → Row × List ℕ → Row × List ℕ
with_first value r = (value ∷ r.0, r.1)

-- a value in front leaves the bytes behind
pub rest_behind : (value : Option (List ℕ)) (o : Option (Row × List ℕ)) → rest_of (option_map (with_first value) o) ≡ rest_of o
rest_behind value None = refl
rest_behind value (Some r) = refl

-- how long an image is, by the bytes behind its values
pub len_by_rest : (bytes : List ℕ) (o : Option (Row × List ℕ)) → option_map (λ r. length bytes - length r.1) o ≡ option_map (λ rest. length bytes - length rest) (rest_of o)
len_by_rest bytes None = refl
len_by_rest bytes (Some r) = refl

-- ---- where a value ends

-- the bytes behind a value
abbrev behind_value_of : Option (List ℕ × List ℕ) → Option (List ℕ)
behind_value_of o = option_map (λ v. v.1) o

-- a column's value, by how it is stored
pub column_ends : (column : Column) (storage : Storage) (at : ℕ) (bytes : List ℕ) (end : Option ℕ) → storage_of column ≡ Some storage → EndsAt (value_stored storage) at bytes end → EndsAt (value_front column) at bytes end
column_ends column storage at bytes end here ends =
    (λ k. option_and_then (λ rest. behind_value_of (front_is column storage rest here k)) (from_position at bytes)) ∙ ends

-- so many bytes from a position on end behind them
bytes_end : (len at : ℕ) (bytes : List ℕ) → at ≤ length bytes → option_map (λ p. p.1) (cut len (drop at bytes)) ≡ from_position (at + len) bytes
bytes_end len at bytes h = by_case (leb len (length (drop at bytes))) refl
  where
    by_case : (t : Bool) → leb len (length (drop at bytes)) ≡ t → option_map (λ p. p.1) (cut len (drop at bytes)) ≡ from_position (at + len) bytes
    by_case true e =
        let long : at + len ≤ length bytes = omega (arith, leb-true len (length (drop at bytes)) e, length-drop at bytes, h) in
        sym (position_cut len (drop at bytes)) ∙ cond-true (leb len (length (drop at bytes))) _ _ e ∙ ap Some (drop-drop len at bytes) ∙ sym (position_within (at + len) bytes long)
    by_case false e =
        let short : length bytes < at + len = omega (arith, leb-false len (length (drop at bytes)) e, length-drop at bytes, h) in
        sym (position_cut len (drop at bytes)) ∙ cond-false (leb len (length (drop at bytes))) _ _ e ∙ sym (position_past (at + len) bytes short)

-- a value of fixed width
pub fixed_ends : (width at : ℕ) (bytes : List ℕ) → EndsAt (value_stored (Fixed width)) at bytes (Some (at + width))
fixed_ends width at bytes = by_case (leb at (length bytes)) refl
  where
    by_case : (t : Bool) → leb at (length bytes) ≡ t → EndsAt (value_stored (Fixed width)) at bytes (Some (at + width))
    by_case true e =
        let within : at ≤ length bytes = leb-true at (length bytes) e in
        ap (option_and_then (λ rest. behind_value_of (cut width rest))) (position_within at bytes within) ∙ bytes_end width at bytes within
    by_case false e =
        let past : length bytes < at = leb-false at (length bytes) e in
        ap (option_and_then (λ rest. behind_value_of (cut width rest))) (position_past at bytes past) ∙ sym (position_past (at + width) bytes (omega (arith, past)))

-- a value behind its length
pub counted_ends : (p at : ℕ) (bytes : List ℕ) → at + p ≤ length bytes → EndsAt (value_stored (Counted p)) at bytes (Some (at + p + little_number p (drop at bytes)))
counted_ends p at bytes h =
    let rest = drop at bytes in
    let within : from_position at bytes ≡ Some rest = position_within at bytes (omega (arith, h)) in
    let front : cut p rest ≡ Some (take p rest, drop p rest) = cond-true (leb p (length rest)) _ _ (le-leb p (length rest) (omega (arith, h, length-drop at bytes))) in
    ap (option_and_then (λ r. behind_value_of (value_stored (Counted p) r))) within
    ∙ ap (λ o. behind_value_of (option_and_then (λ q. cut (little_number p q.0) q.1) o)) front
    ∙ ap (λ n. behind_value_of (cut n (drop p rest))) (little_from-take 0 p p rest (omega arith))
    ∙ ap (λ (r : List ℕ). behind_value_of (cut (little_number p rest) r)) (drop-drop p at bytes)
    ∙ bytes_end (little_number p rest) (at + p) bytes h

-- ---- one column further

-- the bytes behind the values of the columns from i on
abbrev pub behind_rest : Layout → List ℕ → ℕ → List ℕ → Option (List ℕ)
behind_rest columns nulls i rest = rest_of (values_front columns nulls i rest)

-- two steps are one
and_then_twice : {A B C : Type 0} (f : A → Option B) (g : B → Option C) (o : Option A) → option_and_then (λ x. option_and_then g (f x)) o ≡ option_and_then g (option_and_then f o)
and_then_twice f g None = refl
and_then_twice f g (Some x) = refl

-- a value that is there leaves the bytes behind it to the columns behind
behind_first : (columns : Layout) (nulls : List ℕ) (i : ℕ) (o : Option (List ℕ × List ℕ))
    → rest_of (option_and_then (λ v. option_map (with_first (Some v.0)) (values_front columns nulls (i + 1) v.1)) o) ≡ option_and_then (behind_rest columns nulls (i + 1)) (behind_value_of o)
behind_first columns nulls i None = refl
behind_first columns nulls i (Some v) = rest_behind (Some v.0) (values_front columns nulls (i + 1) v.1)

-- a column that is NULL
pub past_null : (column : Column) (columns : Layout) (nulls : List ℕ) (i at : ℕ) (bytes : List ℕ) → is_marked nulls i ≡ true
    → behind_from (column ∷ columns) nulls i at bytes ≡ behind_from columns nulls (i + 1) at bytes
past_null column columns nulls i at bytes marked =
    let one : (rest : List ℕ) → behind_rest (column ∷ columns) nulls i rest ≡ behind_rest columns nulls (i + 1) rest = λ rest.
    ap rest_of (first_null column columns nulls i rest marked) ∙ rest_behind None (values_front columns nulls (i + 1) rest) in
    λ k. option_and_then (λ rest. one rest k) (from_position at bytes)

-- a column whose value is there, or ought to be
pub past_value : (column : Column) (columns : Layout) (nulls : List ℕ) (i at : ℕ) (bytes : List ℕ) (end : Option ℕ) → is_marked nulls i ≡ false → EndsAt (value_front column) at bytes end
    → behind_from (column ∷ columns) nulls i at bytes ≡ option_and_then (behind_rest columns nulls (i + 1)) (option_and_then (λ e. from_position e bytes) end)
past_value column columns nulls i at bytes end marked ends =
    let one : (rest : List ℕ) → behind_rest (column ∷ columns) nulls i rest ≡ option_and_then (behind_rest columns nulls (i + 1)) (behind_value_of (value_front column rest)) = λ rest.
    ap rest_of (first_there column columns nulls i rest marked) ∙ behind_first columns nulls i (value_front column rest) in
    (λ k. option_and_then (λ rest. one rest k) (from_position at bytes))
    ∙ and_then_twice (λ rest. behind_value_of (value_front column rest)) (behind_rest columns nulls (i + 1)) (from_position at bytes)
    ∙ ap (option_and_then (behind_rest columns nulls (i + 1))) ends

-- behind the last column
pub past_all : (nulls : List ℕ) (i at : ℕ) (bytes : List ℕ) → behind_from [] nulls i at bytes ≡ from_position at bytes
unfolding values_front
past_all nulls i at bytes = again (from_position at bytes)
  where
    again : (o : Option (List ℕ)) → option_and_then (λ rest. Some rest) o ≡ o
    again None = refl
    again (Some rest) = refl

-- past the bytes no value is there, and nothing behind it
pub behind_past : (columns : Layout) (nulls : List ℕ) (i at : ℕ) (bytes : List ℕ) → length bytes < at → behind_from columns nulls i at bytes ≡ from_position at bytes
behind_past columns nulls i at bytes past = ap (option_and_then (behind_rest columns nulls i)) (position_past at bytes past) ∙ sym (position_past at bytes past)

-- columns that are all NULL
pub past_nulls : (columns : Layout) (nulls : List ℕ) (i at : ℕ) (bytes : List ℕ) → AreNull nulls i (i + length columns) → behind_from columns nulls i at bytes ≡ from_position at bytes
past_nulls [] nulls i at bytes null = past_all nulls i at bytes
past_nulls (column ∷ columns) nulls i at bytes null =
    past_null column columns nulls i at bytes (null i (omega arith) (omega arith))
    ∙ past_nulls columns nulls (i + 1) at bytes (λ k low high. null k (omega (arith, low)) (omega (arith, high)))

-- past the next columns, n of them, that are NULL
past_next_nulls : (n : ℕ) (columns : Layout) (nulls : List ℕ) (i at : ℕ) (bytes : List ℕ) → AreNull nulls i (i + n) → behind_from columns nulls i at bytes ≡ behind_from (drop n columns) nulls (i + n) at bytes
past_next_nulls zero columns nulls i at bytes null = ap (λ j. behind_from columns nulls j at bytes) (omega arith)
past_next_nulls (suc n) [] nulls i at bytes null = past_all nulls i at bytes ∙ sym (past_all nulls (i + suc n) at bytes)
past_next_nulls (suc n) (column ∷ columns) nulls i at bytes null =
    let next : i + 1 + n ≡ i + suc n = omega arith in
    past_null column columns nulls i at bytes (null i (omega arith) (omega arith))
    ∙ past_next_nulls n columns nulls (i + 1) at bytes (λ k low high. null k (omega (arith, low)) (omega (arith, high)))
    ∙ ap (λ j. behind_from (drop n columns) nulls j at bytes) next

-- past the eight columns of a byte whose bits are all set
pub past_eight_nulls : (columns : Layout) (nulls : List ℕ) (i at : ℕ) (bytes : List ℕ) → i % 8 ≡ 0 → get_or nulls (i / 8) 0 ≡ 255 → behind_from columns nulls i at bytes ≡ behind_from (drop 8 columns) nulls (i + 8) at bytes
past_eight_nulls columns nulls i at bytes whole full =
    past_next_nulls 8 columns nulls i at bytes (eight_null nulls i i (λ k low high. absurd (omega (arith, low, high))) whole full)

-- ---- null bits

-- the bits of a byte, whose first column is a multiple of eight
pub bit_clear : (nulls : List ℕ) (from k : ℕ) → from % 8 ≡ 0 → k < 8 → (get_or nulls (from / 8) 0 / 2 ^ k) % 2 ≡ 0 → is_marked nulls (from + k) ≡ false
bit_clear nulls from k whole h e =
    let byte : (from + k) / 8 ≡ from / 8 = omega (arith, whole, h) in
    let bit : (from + k) % 8 ≡ k = omega (arith, whole, h) in
    rw (byte, bit) (ap (λ n. eqb n 1) e)

pub bit_set : (nulls : List ℕ) (from k : ℕ) → from % 8 ≡ 0 → k < 8 → (get_or nulls (from / 8) 0 / 2 ^ k) % 2 ≢ 0 → is_marked nulls (from + k) ≡ true
bit_set nulls from k whole h e =
    let byte : (from + k) / 8 ≡ from / 8 = omega (arith, whole, h) in
    let bit : (from + k) % 8 ≡ k = omega (arith, whole, h) in
    rw (byte, bit) (eq-eqb _ 1 (odd (get_or nulls (from / 8) 0 / 2 ^ k) e))
  where
    odd : (n : ℕ) → n % 2 ≢ 0 → n % 2 ≡ 1
    odd n h = omega (arith, h)

-- ---- an image

-- its values begin behind its null bits
pub image_begins : (layout : Layout) (bytes nulls values : List ℕ) (n : ℕ) → n ≡ bitmap_len (length layout) → cut n bytes ≡ Some (nulls, values) → behind_from layout nulls 0 n bytes ≡ rest_of (image_front layout bytes)
image_begins layout bytes nulls values n e f =
    ap (option_and_then (behind_rest layout nulls 0)) (position_cut n bytes ∙ ap behind_value_of f)
    ∙ ap rest_of (sym (nulls_cut layout bytes nulls values (ap (λ m. cut m bytes) (sym e) ∙ f)))

-- where they end within the bytes, the image does
pub image_ends : (layout : Layout) (bytes : List ℕ) (end : ℕ) → rest_of (image_front layout bytes) ≡ from_position end bytes → end ≤ length bytes → image_len_of layout bytes ≡ Some end
image_ends layout bytes end e h =
    let long : length bytes - length (drop end bytes) ≡ end = omega (arith, length-drop end bytes, h) in
    len_by_rest bytes (image_front layout bytes) ∙ ap (option_map (λ (rest : List ℕ). length bytes - length rest)) (e ∙ position_within end bytes h) ∙ ap Some long

-- otherwise none is there
pub image_cut : (layout : Layout) (bytes : List ℕ) (end : ℕ) → rest_of (image_front layout bytes) ≡ from_position end bytes → length bytes < end → image_len_of layout bytes ≡ None
image_cut layout bytes end e h =
    len_by_rest bytes (image_front layout bytes) ∙ ap (option_map (λ (rest : List ℕ). length bytes - length rest)) (e ∙ position_past end bytes h)

pub image_none : (layout : Layout) (bytes : List ℕ) → rest_of (image_front layout bytes) ≡ None → image_len_of layout bytes ≡ None
image_none layout bytes e = len_by_rest bytes (image_front layout bytes) ∙ ap (option_map (λ (rest : List ℕ). length bytes - length rest)) e

-- so many bytes are an image
pub image_of_len : (layout : Layout) (bytes : List ℕ) (m : ℕ) → image_len_of layout bytes ≡ Some m → (m ≤ length bytes) × IsSomeImage layout (take m bytes)
image_of_len layout bytes m e =
    let r : (r : Row × List ℕ) × (image_front layout bytes ≡ Some r) × (length bytes - length r.1 ≡ m) = map_found (λ (r : Row × List ℕ). length bytes - length r.1) (image_front layout bytes) m e in
    let found = image_found layout bytes r.0.0 r.0.1 r.1 in
    let taken : take m bytes ≡ found.0 = ap (take m) found.2 ∙ take_at found.0 r.0.1 m (omega (arith, r.2, ap length found.2, length-append found.0 r.0.1)) in
    (omega (arith, r.2), (r.0.0, subst (IsImage layout r.0.0) (sym taken) found.1))

-- the same of what reading answers
pub image_found_by : (layout : Layout) (bytes : List ℕ) (o : Option ℕ) → o ≡ image_len_of layout bytes → IfSome o (λ m. (m ≤ length bytes) × IsSomeImage layout (take m bytes))
image_found_by layout bytes None e = tt
image_found_by layout bytes (Some m) e = image_of_len layout bytes m (sym e)
