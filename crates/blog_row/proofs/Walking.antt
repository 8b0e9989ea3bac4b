-- How the code walks over an image from value to value, past the columns that are NULL.
use Rattle.std.proofs.Common.{◌≡◌, ◌<◌, ◌≤◌, ℕ, zero, suc, ◌+◌, ◌-◌, ◌/◌, ◌%◌, ◌^◌, min, true, false, List, ◌∷◌, length, take, drop, get_or, Option, Some, None, option_and_then, option_map, refl, sym, ap, ◌∙◌, ⊎_elim, arith, length-drop, take-append-drop}
use Rattle.std.proofs.lemmas.Bool.{cond-true, cond-false, eq-eqb, cases_order}
use Rattle.blog_row.specs.Checks.{cut}
use Rattle.blog_row.specs.Column.{Column, Layout, Storage, storage_of, value_stored, value_front}
use Rattle.blog_row.specs.Image.{Row, bitmap_len, is_marked, IsSomeImage, values_front, image_front, image_len_of}
use Rattle.blog_row.specs.code.ImageView.{AreNull}
use Rattle.blog_row.proofs.Images.{image_again}

-- ---- one more value

-- one more value in front of a row
abbrev with_first : Option (List ℕ) → Row × List ℕ → Row × List ℕ
with_first value r = (value ∷ r.0, r.1)

-- the values where the first is NULL
pub first_null : (column : Column) (columns : Layout) (nulls : List ℕ) (i : ℕ) (bytes : List ℕ) → is_marked nulls i ≡ true
    → values_front (column ∷ columns) nulls i bytes ≡ option_map (with_first None) (values_front columns nulls (i + 1) bytes)
unfolding values_front
first_null column columns nulls i bytes marked = cond-true (is_marked nulls i) _ _ marked

-- the values where the first is there
pub first_there : (column : Column) (columns : Layout) (nulls : List ℕ) (i : ℕ) (bytes : List ℕ) → is_marked nulls i ≡ false
    → values_front (column ∷ columns) nulls i bytes ≡ option_and_then (λ v. option_map (with_first (Some v.0)) (values_front columns nulls (i + 1) v.1)) (value_front column bytes)
unfolding values_front
first_there column columns nulls i bytes marked = cond-false (is_marked nulls i) _ _ marked

-- a column's value by how the column is stored
pub front_is : (column : Column) (storage : Storage) (bytes : List ℕ) → storage_of column ≡ Some storage → value_front column bytes ≡ value_stored storage bytes
unfolding value_front
front_is column storage bytes e = ap (option_and_then (λ (s : Storage). value_stored s bytes)) e

-- ---- null bits

-- each bit of a byte that is 255 is set
bit_of_full : (k : ℕ) → k < 8 → (255 / 2 ^ k) % 2 ≡ 1
bit_of_full zero h = refl
bit_of_full (suc zero) h = refl
bit_of_full (suc (suc zero)) h = refl
bit_of_full (suc (suc (suc zero))) h = refl
bit_of_full (suc (suc (suc (suc zero)))) h = refl
bit_of_full (suc (suc (suc (suc (suc zero))))) h = refl
bit_of_full (suc (suc (suc (suc (suc (suc zero)))))) h = refl
bit_of_full (suc (suc (suc (suc (suc (suc (suc zero))))))) h = refl
bit_of_full (suc (suc (suc (suc (suc (suc (suc (suc k)))))))) h = absurd (omega (arith, h))

-- the columns of such a byte are NULL
full_null : (nulls : List ℕ) (i k : ℕ) → i % 8 ≡ 0 → get_or nulls (i / 8) 0 ≡ 255 → i ≤ k → k < i + 8 → is_marked nulls k ≡ true
full_null nulls i k whole full low high =
    let here : k / 8 ≡ i / 8 = omega (arith, whole, low, high) in
    let byte : get_or nulls (k / 8) 0 ≡ 255 = ap (λ n. get_or nulls n 0) here ∙ full in
    eq-eqb _ 1 (ap (λ b. (b / 2 ^ (k % 8)) % 2) byte ∙ bit_of_full (k % 8) (omega arith))

-- more columns that are NULL
more_null : (nulls : List ℕ) (from i to : ℕ) → AreNull nulls from i → AreNull nulls i to → AreNull nulls from to
more_null nulls from i to null more k low high =
    ⊎_elim (λ (e : k ≡ i). more k (omega (arith, e)) high) (λ o. ⊎_elim (λ (h : k < i). null k low h) (λ (h : i < k). more k (omega (arith, h)) high) o) (cases_order k i)

-- eight more columns that are NULL
pub eight_null : (nulls : List ℕ) (from i : ℕ) → AreNull nulls from i → i % 8 ≡ 0 → get_or nulls (i / 8) 0 ≡ 255 → AreNull nulls from (i + 8)
eight_null nulls from i null whole full = more_null nulls from i (i + 8) null (λ k low high. full_null nulls i k whole full low high)

-- one more column that is NULL
pub one_null : (nulls : List ℕ) (from i : ℕ) → AreNull nulls from i → is_marked nulls i ≡ true → AreNull nulls from (i + 1)
one_null nulls from i null marked = more_null nulls from i (i + 1) null (λ k low high. ap (is_marked nulls) (omega (arith, low, high)) ∙ marked)

-- ---- an image

-- the bytes of a bit for each column, as the code counts them
pub rounded_up : (n : ℕ) → n / 8 + min 1 (n % 8) ≡ bitmap_len n
rounded_up n = omega arith

-- the values behind the null bits
pub nulls_cut : (layout : Layout) (bytes nulls values : List ℕ) → cut (bitmap_len (length layout)) bytes ≡ Some (nulls, values) → image_front layout bytes ≡ values_front layout nulls 0 values
unfolding image_front
nulls_cut layout bytes nulls values e = ap (option_and_then (λ p. values_front layout p.0 0 p.1)) e

-- no null bits
pub nulls_short : (layout : Layout) (bytes : List ℕ) → cut (bitmap_len (length layout)) bytes ≡ None → image_front layout bytes ≡ None
unfolding image_front
nulls_short layout bytes e = ap (option_and_then (λ p. values_front layout p.0 0 p.1)) e

-- no other number of bytes is an image's
pub image_only : (layout : Layout) (bytes : List ℕ) (m : ℕ) → m ≤ length bytes → IsSomeImage layout (take m bytes) → image_len_of layout bytes ≡ Some m
image_only layout bytes m h is =
    let read : image_front layout bytes ≡ Some (is.0, drop m bytes) = ap (image_front layout) (sym (take-append-drop m bytes)) ∙ image_again layout is.0 (take m bytes) (drop m bytes) is.1 in
    let long : length bytes - length (drop m bytes) ≡ m = omega (arith, length-drop m bytes) in
    ap (option_map (λ r. length bytes - length r.1)) read ∙ ap Some long
