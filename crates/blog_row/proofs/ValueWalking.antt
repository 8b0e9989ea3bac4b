-- How the code goes through the values of an image column by column, whether they are NULL or not.
use Rattle.std.proofs.Common.{◌≡◌, ◌≤◌, ℕ, suc, ◌+◌, ◌-◌, true, false, Bool, is_some, List, [], ◌∷◌, length, Option, Some, None, option_and_then, option_map, unwrap_or, refl, sym, ap, ◌∙◌, arith}
use Rattle.std.specs.List.{slice_get}
use Rattle.blog_row.specs.Checks.{cut}
use Rattle.blog_row.specs.Column.{Column, Layout, value_front}
use Rattle.blog_row.specs.Image.{Row, bitmap_len, is_marked, values_front, image_front, image_len_of, row_of, value_of}
use Rattle.blog_row.proofs.Walking.{first_null, first_there}

-- the values that were read
abbrev pub row_read : Option (Row × List ℕ) → Row
row_read o = unwrap_or (option_map (λ r. r.0) o) []

-- one more value in front
abbrev with_first : Option (List ℕ) → Row × List ℕ → Row × List ℕ
with_first value r = (value ∷ r.0, r.1)

-- a value, and those behind it
pub record FirstOf (whole : Option (Row × List ℕ)) (value : Option (List ℕ)) (others : Option (Row × List ℕ)) : Type 0 where
  pub imaged : is_some others ≡ true
  pub row : row_read whole ≡ value ∷ row_read others

first_of : (value : Option (List ℕ)) (others : Option (Row × List ℕ)) → is_some (option_map (with_first value) others) ≡ true → FirstOf (option_map (with_first value) others) value others
first_of value None whole = absurd (cc)
first_of value (Some r) whole = record { imaged = refl; row = refl }

-- the value in front is NULL
pub null_first : (column : Column) (columns : Layout) (nulls : List ℕ) (i : ℕ) (bytes : List ℕ) → is_marked nulls i ≡ true → is_some (values_front (column ∷ columns) nulls i bytes) ≡ true
    → FirstOf (values_front (column ∷ columns) nulls i bytes) None (values_front columns nulls (i + 1) bytes)
null_first column columns nulls i bytes marked whole =
    let e = first_null column columns nulls i bytes marked in
    rw e (first_of None (values_front columns nulls (i + 1) bytes) (rw e at whole))

-- the value in front is there
pub value_first : (column : Column) (columns : Layout) (nulls : List ℕ) (i : ℕ) (bytes here after : List ℕ) → is_marked nulls i ≡ false → value_front column bytes ≡ Some (here, after) → is_some (values_front (column ∷ columns) nulls i bytes) ≡ true
    → FirstOf (values_front (column ∷ columns) nulls i bytes) (Some here) (values_front columns nulls (i + 1) after)
value_first column columns nulls i bytes here after marked front whole =
    let e : values_front (column ∷ columns) nulls i bytes ≡ option_map (with_first (Some here)) (values_front columns nulls (i + 1) after) =
    first_there column columns nulls i bytes marked ∙ ap (option_and_then _) front in
    rw e (first_of (Some here) (values_front columns nulls (i + 1) after) (rw e at whole))

-- a value that is not there is in no image
pub value_there : {P : Type 0} (column : Column) (columns : Layout) (nulls : List ℕ) (i : ℕ) (bytes : List ℕ) → is_marked nulls i ≡ false → value_front column bytes ≡ None → is_some (values_front (column ∷ columns) nulls i bytes) ≡ true → P
value_there column columns nulls i bytes marked front whole =
    let e : values_front (column ∷ columns) nulls i bytes ≡ None = first_there column columns nulls i bytes marked ∙ ap (option_and_then _) front in
    absurd (let same = ap is_some e in cc)

-- no columns have no values
pub none_read : (nulls : List ℕ) (i : ℕ) (bytes : List ℕ) → row_read (values_front [] nulls i bytes) ≡ []
unfolding values_front
none_read nulls i bytes = refl

-- ---- how many values there are

grown : (n : ℕ) (value : Option (List ℕ)) (others : Option (Row × List ℕ)) → length (row_read others) ≤ n → length (row_read (option_map (with_first value) others)) ≤ suc n
grown n value None few = omega arith
grown n value (Some r) few = omega arith

pub few_read : (columns : Layout) (nulls : List ℕ) (i : ℕ) (bytes : List ℕ) → length (row_read (values_front columns nulls i bytes)) ≤ length columns
few_read [] nulls i bytes = let none = ap length (none_read nulls i bytes) in omega arith
few_read (column ∷ columns) nulls i bytes = by_mark (is_marked nulls i) refl (value_front column bytes) refl (few_read columns nulls (i + 1))
  where
    by_mark : (b : Bool) → is_marked nulls i ≡ b → (v : Option (List ℕ × List ℕ)) → value_front column bytes ≡ v → ((rest : List ℕ) → length (row_read (values_front columns nulls (i + 1) rest)) ≤ length columns)
        → length (row_read (values_front (column ∷ columns) nulls i bytes)) ≤ suc (length columns)
    by_mark true marked v front few = rw (first_null column columns nulls i bytes marked) (grown (length columns) None (values_front columns nulls (i + 1) bytes) (few bytes))
    by_mark false marked None front few = rw (first_there column columns nulls i bytes marked, front) (omega arith)
    by_mark false marked (Some v) front few = rw (first_there column columns nulls i bytes marked, front) (grown (length columns) (Some v.0) (values_front columns nulls (i + 1) v.1) (few v.1))

-- where they are read, there is one for each column
pub as_many_read : (columns : Layout) (nulls : List ℕ) (i : ℕ) (bytes : List ℕ) → is_some (values_front columns nulls i bytes) ≡ true → length (row_read (values_front columns nulls i bytes)) ≡ length columns
as_many_read [] nulls i bytes whole = ap length (none_read nulls i bytes)
as_many_read (column ∷ columns) nulls i bytes whole = by_mark (is_marked nulls i) refl (value_front column bytes) refl (as_many_read columns nulls (i + 1))
  where
    by_mark : (b : Bool) → is_marked nulls i ≡ b → (v : Option (List ℕ × List ℕ)) → value_front column bytes ≡ v
        → ((rest : List ℕ) → is_some (values_front columns nulls (i + 1) rest) ≡ true → length (row_read (values_front columns nulls (i + 1) rest)) ≡ length columns)
        → length (row_read (values_front (column ∷ columns) nulls i bytes)) ≡ suc (length columns)
    by_mark true marked v front many =
        let first = null_first column columns nulls i bytes marked whole in
        ap length first.row ∙ ap suc (many bytes first.imaged)
    by_mark false marked None front many = value_there column columns nulls i bytes marked front whole
    by_mark false marked (Some v) front many =
        let first = value_first column columns nulls i bytes v.0 v.1 marked front whole in
        ap length first.row ∙ ap suc (many v.1 first.imaged)

-- ---- an image

-- the row of an image is what is read in front
pub row_is : (layout : Layout) (bytes : List ℕ) → row_read (image_front layout bytes) ≡ row_of layout bytes
unfolding row_of
row_is layout bytes = refl

-- a column's value is the one of its number in the row
pub value_is : (layout : Layout) (bytes : List ℕ) (column : ℕ) → value_of layout bytes column ≡ slice_get (row_of layout bytes) column
unfolding row_of
value_is layout bytes column = by_read (image_front layout bytes)
  where
    by_read : (o : Option (Row × List ℕ)) → option_and_then (λ r. slice_get r.0 column) o ≡ slice_get (row_read o) column
    by_read None = refl
    by_read (Some r) = refl

-- where an image has no length, nothing is read
pub no_row : (layout : Layout) (bytes : List ℕ) → is_some (image_len_of layout bytes) ≡ false → row_of layout bytes ≡ []
no_row layout bytes h = sym (row_is layout bytes) ∙ by_read (image_front layout bytes) h
  where
    by_read : (o : Option (Row × List ℕ)) → is_some (option_map (λ r. length bytes - length r.1) o) ≡ false → row_read o ≡ []
    by_read None h = refl
    by_read (Some r) h = absurd (cc)

-- a row has at most a value for each column
pub few_values : (layout : Layout) (bytes : List ℕ) → length (row_of layout bytes) ≤ length layout
unfolding image_front
few_values layout bytes = rw (sym (row_is layout bytes)) (by_cut (cut (bitmap_len (length layout)) bytes))
  where
    by_cut : (o : Option (List ℕ × List ℕ)) → length (row_read (option_and_then (λ p. values_front layout p.0 0 p.1) o)) ≤ length layout
    by_cut None = omega arith
    by_cut (Some p) = few_read layout p.0 0 p.1
