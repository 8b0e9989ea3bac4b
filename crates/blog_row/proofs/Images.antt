-- Values, rows and images are read exactly as they are spelled.
use Rattle.std.proofs.Common.{◌≡◌, ℕ, zero, suc, ◌+◌, ◌-◌, ◌<◌, ◌≤◌, Bool, true, false, cond, is_none, List, [], ◌∷◌, ◌++◌, length, take, Option, Some, None, option_and_then, option_map, slice_index_or, refl, sym, ap, ◌∙◌, subst, arith, append_assoc, length-append, take_at}
use Rattle.std.specs.List.{concat, AllByRecursion}
use Rattle.std.proofs.lemmas.Bool.{cond-true, cond-false}
use Rattle.std.proofs.lemmas.Option.{same_Some}
use Rattle.byteorder.specs.Endian.{little_number}
use Rattle.blog_row.specs.Checks.{cut}
use Rattle.blog_row.specs.Column.{Column, Layout, Storage, Fixed, Counted, storage_of, SpellsAs, Spells, value_stored, value_front}
use Rattle.blog_row.specs.Image.{Row, bitmap_len, is_marked, SpellsRow, MarksNulls, IsImage, IsSomeImage, values_front, image_front, images_up_to, images_of}
use Rattle.blog_row.proofs.Cutting.{none_is_not, and_then_found, map_found, and_then_again, map_again, cut_found, cut_again}

-- ---- a value

-- the value behind its length
abbrev counted_value : ℕ → List ℕ × List ℕ → Option (List ℕ × List ℕ)
counted_value prefix p = cut (little_number prefix p.0) p.1

-- what reads at the front is spelled there, in each storage
pub stored_found : (storage : Storage) (bytes value rest : List ℕ) → value_stored storage bytes ≡ Some (value, rest) → (first : List ℕ) × SpellsAs storage value first × (bytes ≡ first ++ rest)
stored_found (Fixed width) bytes value rest e =
    let c : (length value ≡ width) × (bytes ≡ value ++ rest) = cut_found width bytes value rest e in
    (value, (c.0, refl), c.1)
stored_found (Counted prefix) bytes value rest e =
    let a : (p : List ℕ × List ℕ) × (cut prefix bytes ≡ Some p) × (counted_value prefix p ≡ Some (value, rest)) = and_then_found (counted_value prefix) (cut prefix bytes) (value, rest) e in
    let count : (length a.0.0 ≡ prefix) × (bytes ≡ a.0.0 ++ a.0.1) = cut_found prefix bytes a.0.0 a.0.1 a.1 in
    let own : (length value ≡ little_number prefix a.0.0) × (a.0.1 ≡ value ++ rest) = cut_found (little_number prefix a.0.0) a.0.1 value rest a.2 in
    (a.0.0 ++ value, (a.0.0, count.0, sym own.0, refl), count.1 ∙ ap (λ (t : List ℕ). a.0.0 ++ t) own.1 ∙ sym (append_assoc a.0.0 value rest))

-- a spelling in front is read, in each storage
stored_again : (storage : Storage) (value first rest : List ℕ) → SpellsAs storage value first → value_stored storage (first ++ rest) ≡ Some (value, rest)
stored_again (Fixed width) value first rest s = ap (λ (t : List ℕ). cut width (t ++ rest)) s.1 ∙ cut_again width value rest s.0
stored_again (Counted prefix) value first rest s =
    ap (λ (t : List ℕ). value_stored (Counted prefix) (t ++ rest)) s.3
    ∙ ap (value_stored (Counted prefix)) (append_assoc s.0 value rest)
    ∙ and_then_again (counted_value prefix) (cut prefix (s.0 ++ (value ++ rest))) (s.0, value ++ rest) (value, rest) (cut_again prefix s.0 (value ++ rest) s.1) (cut_again (little_number prefix s.0) value rest (sym s.2))

-- what reads at the front as a column's value is spelled there
pub value_found : (column : Column) (bytes value rest : List ℕ) → value_front column bytes ≡ Some (value, rest) → (first : List ℕ) × Spells column value first × (bytes ≡ first ++ rest)
unfolding value_front
value_found column bytes value rest e =
    let a : (storage : Storage) × (storage_of column ≡ Some storage) × (value_stored storage bytes ≡ Some (value, rest)) = and_then_found (λ (storage : Storage). value_stored storage bytes) (storage_of column) (value, rest) e in
    let s : (first : List ℕ) × SpellsAs a.0 value first × (bytes ≡ first ++ rest) = stored_found a.0 bytes value rest a.2 in
    (s.0, (a.0, a.1, s.1), s.2)

-- a column's value that is spelled in front is read, whatever follows
pub value_again : (column : Column) (value first rest : List ℕ) → Spells column value first → value_front column (first ++ rest) ≡ Some (value, rest)
unfolding value_front
value_again column value first rest s =
    and_then_again (λ (storage : Storage). value_stored storage (first ++ rest)) (storage_of column) s.0 (value, rest) s.1 (stored_again s.0 value first rest s.2)

-- ---- the values of a row

-- the null bits from bit i on mark exactly the values that are absent
abbrev pub Marks : List ℕ → ℕ → Row → Type 0
Marks nulls i row = (k : ℕ) → k < length row → is_marked nulls (i + k) ≡ is_none (slice_index_or row k None)

-- the row's values stand in front
pub record RowInFront (layout : Layout) (nulls : List ℕ) (i : ℕ) (bytes : List ℕ) (p : Row × List ℕ) : Type 0 where
  pub values : List ℕ
  pub spells : SpellsRow layout p.0 values
  pub marks : Marks nulls i p.0
  pub text : bytes ≡ values ++ p.1

-- one more value in front, with its bit
marks_more : (nulls : List ℕ) (i : ℕ) (value : Option (List ℕ)) (row : Row) → is_marked nulls i ≡ is_none value → Marks nulls (i + 1) row → Marks nulls i (value ∷ row)
marks_more nulls i value row h m zero l = ap (is_marked nulls) (omega arith) ∙ h
marks_more nulls i value row h m (suc k) l = ap (is_marked nulls) (omega arith) ∙ m k (omega arith)

-- the bit of the first value
marks_first : (nulls : List ℕ) (i : ℕ) (value : Option (List ℕ)) (row : Row) → Marks nulls i (value ∷ row) → is_marked nulls i ≡ is_none value
marks_first nulls i value row m = ap (is_marked nulls) (omega arith) ∙ m 0 (omega arith)

-- the bits of the values behind the first
marks_others : (nulls : List ℕ) (i : ℕ) (value : Option (List ℕ)) (row : Row) → Marks nulls i (value ∷ row) → Marks nulls (i + 1) row
marks_others nulls i value row m k l = ap (is_marked nulls) (omega arith) ∙ m (suc k) (omega arith)

-- a row with one more value, which is NULL
abbrev absent_first : Row × List ℕ → Row × List ℕ
absent_first r = (None ∷ r.0, r.1)

-- a row with one more value, which is there
abbrev present_first : List ℕ → Row × List ℕ → Row × List ℕ
present_first value r = (Some value ∷ r.0, r.1)

-- a value that was read, and the values of the columns behind it
abbrev with_others : Layout → List ℕ → ℕ → List ℕ × List ℕ → Option (Row × List ℕ)
with_others columns nulls i v = option_map (present_first v.0) (values_front columns nulls (i + 1) v.1)

-- what reads at the front for one more column is a row in front
column_found : (column : Column) (columns : Layout) (nulls : List ℕ) (i : ℕ) (bytes : List ℕ) (p : Row × List ℕ) → ((bytes : List ℕ) (p : Row × List ℕ) → values_front columns nulls (i + 1) bytes ≡ Some p → RowInFront columns nulls (i + 1) bytes p) → (b : Bool) → is_marked nulls i ≡ b → cond b (option_map absent_first (values_front columns nulls (i + 1) bytes)) (option_and_then (with_others columns nulls i) (value_front column bytes)) ≡ Some p → RowInFront (column ∷ columns) nulls i bytes p
column_found column columns nulls i bytes p others true marked e =
    let a : (r : Row × List ℕ) × (values_front columns nulls (i + 1) bytes ≡ Some r) × (absent_first r ≡ p) = map_found absent_first (values_front columns nulls (i + 1) bytes) p e in
    let o : RowInFront columns nulls (i + 1) bytes a.0 = others bytes a.0 a.1 in
    let here : RowInFront (column ∷ columns) nulls i bytes (absent_first a.0) = record { values = o.values; spells = o.spells; marks = marks_more nulls i None a.0.0 marked o.marks; text = o.text } in
    subst (RowInFront (column ∷ columns) nulls i bytes) a.2 here
column_found column columns nulls i bytes p others false marked e =
    let v : (v : List ℕ × List ℕ) × (value_front column bytes ≡ Some v) × (with_others columns nulls i v ≡ Some p) = and_then_found (with_others columns nulls i) (value_front column bytes) p e in
    let s : (first : List ℕ) × Spells column v.0.0 first × (bytes ≡ first ++ v.0.1) = value_found column bytes v.0.0 v.0.1 v.1 in
    let a : (r : Row × List ℕ) × (values_front columns nulls (i + 1) v.0.1 ≡ Some r) × (present_first v.0.0 r ≡ p) = map_found (present_first v.0.0) (values_front columns nulls (i + 1) v.0.1) p v.2 in
    let o : RowInFront columns nulls (i + 1) v.0.1 a.0 = others v.0.1 a.0 a.1 in
    let here : RowInFront (column ∷ columns) nulls i bytes (present_first v.0.0 a.0) = record { values = s.0 ++ o.values; spells = (s.0, o.values, s.1, o.spells, refl); marks = marks_more nulls i (Some v.0.0) a.0.0 marked o.marks; text = s.2 ∙ ap (λ (t : List ℕ). s.0 ++ t) o.text ∙ sym (append_assoc s.0 o.values a.0.1) } in
    subst (RowInFront (column ∷ columns) nulls i bytes) a.2 here

-- what reads at the front is a row in front
pub values_found : (layout : Layout) (nulls : List ℕ) (i : ℕ) (bytes : List ℕ) (p : Row × List ℕ) → values_front layout nulls i bytes ≡ Some p → RowInFront layout nulls i bytes p
unfolding values_front
values_found [] nulls i bytes p e =
    let here : RowInFront [] nulls i bytes ([], bytes) = record { values = []; spells = refl; marks = λ k l. absurd (omega arith); text = refl } in
    subst (RowInFront [] nulls i bytes) (same_Some ([], bytes) p e) here
values_found (column ∷ columns) nulls i bytes p e = column_found column columns nulls i bytes p (λ others r h. values_found columns nulls (i + 1) others r h) (is_marked nulls i) refl e

-- a row's values in front are read, whatever follows
pub values_again : (layout : Layout) (row : Row) (nulls : List ℕ) (i : ℕ) (values rest : List ℕ) → SpellsRow layout row values → Marks nulls i row → values_front layout nulls i (values ++ rest) ≡ Some (row, rest)
unfolding values_front
values_again [] [] nulls i values rest s m =
    let nothing : List ℕ → Row × List ℕ = λ t. ([], t ++ rest) in
    ap Some (ap nothing s)
values_again [] (value ∷ row) nulls i values rest s m = absurd s
values_again (column ∷ columns) [] nulls i values rest s m = absurd s
values_again (column ∷ columns) (None ∷ row) nulls i values rest s m =
    cond-true (is_marked nulls i) (option_map absent_first (values_front columns nulls (i + 1) (values ++ rest))) (option_and_then (with_others columns nulls i) (value_front column (values ++ rest))) (marks_first nulls i None row m)
    ∙ map_again absent_first (values_front columns nulls (i + 1) (values ++ rest)) (row, rest) (None ∷ row, rest) (values_again columns row nulls (i + 1) values rest s (marks_others nulls i None row m)) refl
values_again (column ∷ columns) (Some value ∷ row) nulls i values rest s m =
    cond-false (is_marked nulls i) (option_map absent_first (values_front columns nulls (i + 1) (values ++ rest))) (option_and_then (with_others columns nulls i) (value_front column (values ++ rest))) (marks_first nulls i (Some value) row m)
    ∙ and_then_again (with_others columns nulls i) (value_front column (values ++ rest)) (value, s.1 ++ rest) (Some value ∷ row, rest)
    (ap (λ (t : List ℕ). value_front column (t ++ rest)) s.4 ∙ ap (value_front column) (append_assoc s.0 s.1 rest) ∙ value_again column value s.0 (s.1 ++ rest) s.2)
    (map_again (present_first value) (values_front columns nulls (i + 1) (s.1 ++ rest)) (row, rest) (Some value ∷ row, rest) (values_again columns row nulls (i + 1) s.1 rest s.3 (marks_others nulls i (Some value) row m)) refl)

-- ---- an image

-- the values behind the null bits
abbrev behind_nulls : Layout → List ℕ × List ℕ → Option (Row × List ℕ)
behind_nulls layout p = values_front layout p.0 0 p.1

-- what reads at the front is an image of the row
pub image_found : (layout : Layout) (bytes : List ℕ) (row : Row) (rest : List ℕ) → image_front layout bytes ≡ Some (row, rest) → (image : List ℕ) × IsImage layout row image × (bytes ≡ image ++ rest)
unfolding image_front
image_found layout bytes row rest e =
    let a : (p : List ℕ × List ℕ) × (cut (bitmap_len (length layout)) bytes ≡ Some p) × (behind_nulls layout p ≡ Some (row, rest)) = and_then_found (behind_nulls layout) (cut (bitmap_len (length layout)) bytes) (row, rest) e in
    let c : (length a.0.0 ≡ bitmap_len (length layout)) × (bytes ≡ a.0.0 ++ a.0.1) = cut_found (bitmap_len (length layout)) bytes a.0.0 a.0.1 a.1 in
    let f : RowInFront layout a.0.0 0 a.0.1 (row, rest) = values_found layout a.0.0 0 a.0.1 (row, rest) a.2 in
    let marks : MarksNulls a.0.0 row = λ i l. ap (is_marked a.0.0) (omega arith) ∙ f.marks i l in
    (a.0.0 ++ f.values, record { nulls = a.0.0; values = f.values; parts = refl; long = c.0; marks = marks; spells = f.spells }, c.1 ∙ ap (λ (t : List ℕ). a.0.0 ++ t) f.text ∙ sym (append_assoc a.0.0 f.values rest))

-- an image in front is read, whatever follows
pub image_again : (layout : Layout) (row : Row) (image rest : List ℕ) → IsImage layout row image → image_front layout (image ++ rest) ≡ Some (row, rest)
unfolding image_front
image_again layout row image rest is =
    ap (λ (t : List ℕ). image_front layout (t ++ rest)) is.parts
    ∙ ap (image_front layout) (append_assoc is.nulls is.values rest)
    ∙ and_then_again (behind_nulls layout) (cut (bitmap_len (length layout)) (is.nulls ++ (is.values ++ rest))) (is.nulls, is.values ++ rest) (row, rest) (cut_again (bitmap_len (length layout)) is.nulls (is.values ++ rest) is.long)
    (values_again layout row is.nulls 0 is.values rest is.spells (λ k l. ap (is_marked is.nulls) (omega arith) ∙ is.marks k l))

-- an image of one column or more is not empty
pub image_positive : (layout : Layout) (row : Row) (image : List ℕ) → 0 < length layout → IsImage layout row image → 0 < length image
image_positive layout row image some is = omega (arith, ap length is.parts, length-append is.nulls is.values, is.long)

-- what is taken up to the rest is what stands in front of it
taken_is : (bytes image rest : List ℕ) → bytes ≡ image ++ rest → take (length bytes - length rest) bytes ≡ image
taken_is bytes image rest e =
    let l : length image ≡ length bytes - length rest = omega (arith, ap length e, length-append image rest) in
    ap (take (length bytes - length rest)) e ∙ take_at image rest (length bytes - length rest) l

-- ---- images, one after the other

-- the image in front of what is left, and the images of that
abbrev with_images : ℕ → Layout → List ℕ → Row × List ℕ → Option (List (List ℕ))
with_images n layout bytes r = option_map (λ (images : List (List ℕ)). take (length bytes - length r.1) bytes ∷ images) (images_up_to n layout r.1)

-- at most so many images that are read are images, and the bytes are theirs
up_to_found : (n : ℕ) (layout : Layout) (bytes : List ℕ) (images : List (List ℕ)) → images_up_to n layout bytes ≡ Some images → AllByRecursion (IsSomeImage layout) images × (bytes ≡ concat images)
unfolding images_up_to
up_to_found zero layout [] images e = subst (λ (xs : List (List ℕ)). AllByRecursion (IsSomeImage layout) xs × ([] ≡ concat xs)) (same_Some [] images e) (tt, refl)
up_to_found (suc n) layout [] images e = subst (λ (xs : List (List ℕ)). AllByRecursion (IsSomeImage layout) xs × ([] ≡ concat xs)) (same_Some [] images e) (tt, refl)
up_to_found zero layout (b ∷ bytes) images e = none_is_not images e
up_to_found (suc n) layout (b ∷ bytes) images e =
    let r : (r : Row × List ℕ) × (image_front layout (b ∷ bytes) ≡ Some r) × (with_images n layout (b ∷ bytes) r ≡ Some images) = and_then_found (with_images n layout (b ∷ bytes)) (image_front layout (b ∷ bytes)) images e in
    let front : List ℕ = take (length (b ∷ bytes) - length r.0.1) (b ∷ bytes) in
    let a : (others : List (List ℕ)) × (images_up_to n layout r.0.1 ≡ Some others) × (front ∷ others ≡ images) = map_found (λ (images : List (List ℕ)). front ∷ images) (images_up_to n layout r.0.1) images r.2 in
    let f : (image : List ℕ) × IsImage layout r.0.0 image × (b ∷ bytes ≡ image ++ r.0.1) = image_found layout (b ∷ bytes) r.0.0 r.0.1 r.1 in
    let o : AllByRecursion (IsSomeImage layout) a.0 × (r.0.1 ≡ concat a.0) = up_to_found n layout r.0.1 a.0 a.1 in
    let own : f.0 ∷ a.0 ≡ images = ap (λ (t : List ℕ). t ∷ a.0) (sym (taken_is (b ∷ bytes) f.0 r.0.1 f.2)) ∙ a.2 in
    subst (λ (xs : List (List ℕ)). AllByRecursion (IsSomeImage layout) xs × (b ∷ bytes ≡ concat xs)) own (((r.0.0, f.1), o.0), f.2 ∙ ap (λ (t : List ℕ). f.0 ++ t) o.1)

-- images that are joined are read again, where so many may be
up_to_again : (n : ℕ) (layout : Layout) (images : List (List ℕ)) → 0 < length layout → AllByRecursion (IsSomeImage layout) images → length (concat images) ≤ n → images_up_to n layout (concat images) ≡ Some images
unfolding images_up_to
up_to_again zero layout [] some each l = refl
up_to_again (suc n) layout [] some each l = refl
up_to_again n layout ([] ∷ images) some each l = absurd (omega (arith, image_positive layout each.0.0 [] some each.0.1))
up_to_again zero layout ((b ∷ image) ∷ images) some each l = absurd (omega arith)
up_to_again (suc n) layout ((b ∷ image) ∷ images) some each l =
    let others : length (concat images) ≤ n = omega (arith, length-append image (concat images)) in
    and_then_again (with_images n layout (b ∷ (image ++ concat images))) (image_front layout (b ∷ (image ++ concat images))) (each.0.0, concat images) ((b ∷ image) ∷ images) (image_again layout each.0.0 (b ∷ image) (concat images) each.0.1)
    (map_again (λ (xs : List (List ℕ)). take (length (b ∷ (image ++ concat images)) - length (concat images)) (b ∷ (image ++ concat images)) ∷ xs) (images_up_to n layout (concat images)) images ((b ∷ image) ∷ images) (up_to_again n layout images some each.1 others)
    (ap (λ (t : List ℕ). t ∷ images) (taken_is (b ∷ (image ++ concat images)) (b ∷ image) (concat images) refl)))

-- bytes that are read as images are images, one after the other
pub images_found : (layout : Layout) (bytes : List ℕ) (images : List (List ℕ)) → images_of layout bytes ≡ Some images → AllByRecursion (IsSomeImage layout) images × (bytes ≡ concat images)
images_found layout bytes images e = up_to_found (length bytes) layout bytes images e

-- images that are joined are read again
pub images_joined : (layout : Layout) (images : List (List ℕ)) → 0 < length layout → AllByRecursion (IsSomeImage layout) images → images_of layout (concat images) ≡ Some images
images_joined layout images some each = up_to_again (length (concat images)) layout images some each (omega arith)

-- bytes that are images, one after the other, are read as these
pub images_again : (layout : Layout) (bytes : List ℕ) (images : List (List ℕ)) → 0 < length layout → AllByRecursion (IsSomeImage layout) images → bytes ≡ concat images → images_of layout bytes ≡ Some images
images_again layout bytes images some each e = ap (images_of layout) e ∙ images_joined layout images some each
