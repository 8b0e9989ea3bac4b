-- How the code looks up how columns are stored, and how it walks over an image by that.
use Rattle.std.proofs.Common.{◌≡◌, ◌≢◌, ◌<◌, ◌≤◌, ℕ, zero, suc, ◌+◌, ◌/◌, ◌%◌, ◌^◌, min, true, false, List, [], ◌∷◌, ◌++◌, length, take, drop, map, get_or, Option, Some, None, option_and_then, refl, sym, ap, ◌∙◌, subst, arith}
use Rattle.std.specs.List.{list_all}
use Rattle.std.proofs.lemmas.List.{append-nil, drop_all, drop-drop, drop_more}
use Rattle.blog_row.specs.declared.column.Storage as told
use Rattle.blog_row.specs.declared.column.Storage.TheVariants as variants
use Rattle.blog_row.specs.Column.{Column, Layout, storage_of, is_column, columns_of, value_stored, value_front}
use Rattle.blog_row.specs.Image.{bitmap_len, is_marked}
use Rattle.blog_row.specs.code.StorageView.{AreStored, storage_seen}
use Rattle.blog_row.proofs.PositionWalking.{behind_rest, past_null, past_value, past_all, column_ends, bit_clear, bit_set}
use Rattle.blog_row.specs.code.PositionView.{from_position, EndsAt, behind_from}
use Rattle.blog_row.proofs.Walking.{rounded_up}

-- ---- the columns behind others

-- columns behind others are stored as the storages behind theirs
pub stored_behind : (n : ℕ) (columns : Layout) (storages : List told.Storage) → AreStored columns storages → AreStored (drop n columns) (drop n storages)
stored_behind zero columns storages stored = stored
stored_behind (suc n) [] [] stored = tt
stored_behind (suc n) [] (storage ∷ storages) stored = absurd stored
stored_behind (suc n) (column ∷ columns) [] stored = absurd stored
stored_behind (suc n) (column ∷ columns) (storage ∷ storages) stored = stored_behind n columns storages stored.1

-- the column that is stored as the first storage
pub record First (columns : Layout) (storage : told.Storage) : Type 0 where
  pub column : Column
  pub are : columns ≡ column ∷ drop 1 columns
  pub here : storage_of column ≡ Some (storage_seen storage)

pub first : (columns : Layout) (storage : told.Storage) (storages : List told.Storage) → AreStored columns (storage ∷ storages) → First columns storage
first [] storage storages stored = absurd stored
first (column ∷ columns) storage storages stored = record { column = column; are = refl; here = stored.0 }

-- that of the k-th of the columns from column `from` on
first_at : (columns : Layout) (storages : List told.Storage) (from k : ℕ) (d : told.Storage) → from + k < length storages → AreStored columns (drop from storages) → First (drop k columns) (get_or storages (from + k) d)
first_at columns storages from k d h stored =
    let split : drop k (drop from storages) ≡ get_or storages (from + k) d ∷ drop (from + k + 1) storages = drop-drop k from storages ∙ drop_more storages (from + k) d h in
    first (drop k columns) (get_or storages (from + k) d) (drop (from + k + 1) storages) (subst (AreStored (drop k columns)) split (stored_behind k columns (drop from storages) stored))

-- no storages are those of no columns
none_left : (columns : Layout) → AreStored columns [] → columns ≡ []
none_left [] stored = refl
none_left (column ∷ columns) stored = absurd stored

-- ---- a walk over an image

-- the columns behind the next one
onward : (columns : Layout) (nulls bytes : List ℕ) (from k at : ℕ) → behind_from (drop 1 (drop k columns)) nulls (from + k + 1) at bytes ≡ behind_from (drop (k + 1) columns) nulls (from + (k + 1)) at bytes
onward columns nulls bytes from k at =
    let next : from + k + 1 ≡ from + (k + 1) = omega arith in
    ap (λ (t : Layout). behind_from t nulls (from + k + 1) at bytes) (drop-drop 1 k columns) ∙ ap (λ (i : ℕ). behind_from (drop (k + 1) columns) nulls i at bytes) next

-- one column further, which is NULL
next_null : (columns : Layout) (storages : List told.Storage) (nulls bytes : List ℕ) (from k at : ℕ)
    → from + k < length storages → AreStored columns (drop from storages) → is_marked nulls (from + k) ≡ true
    → behind_from (drop k columns) nulls (from + k) at bytes ≡ behind_from (drop (k + 1) columns) nulls (from + (k + 1)) at bytes
next_null columns storages nulls bytes from k at h stored marked =
    let f = first_at columns storages from k (variants.Fixed 0) h stored in
    ap (λ (t : Layout). behind_from t nulls (from + k) at bytes) f.are
    ∙ past_null f.column (drop 1 (drop k columns)) nulls (from + k) at bytes marked
    ∙ onward columns nulls bytes from k at

-- one column further, whose value ends so; None where it is not there
next_value : (columns : Layout) (storages : List told.Storage) (nulls bytes : List ℕ) (from k at : ℕ) (d : told.Storage) (end : Option ℕ)
    → from + k < length storages → AreStored columns (drop from storages) → is_marked nulls (from + k) ≡ false → EndsAt (value_stored (storage_seen (get_or storages (from + k) d))) at bytes end
    → behind_from (drop k columns) nulls (from + k) at bytes ≡ option_and_then (λ e. behind_from (drop (k + 1) columns) nulls (from + (k + 1)) e bytes) end
next_value columns storages nulls bytes from k at d end h stored marked ends =
    let f = first_at columns storages from k d h stored in
    let own : EndsAt (value_front f.column) at bytes end = column_ends f.column (storage_seen (get_or storages (from + k) d)) at bytes end f.here ends in
    ap (λ (t : Layout). behind_from t nulls (from + k) at bytes) f.are
    ∙ past_value f.column (drop 1 (drop k columns)) nulls (from + k) at bytes end marked own
    ∙ behind end
  where
    behind : (o : Option ℕ) → option_and_then (behind_rest (drop 1 (drop k columns)) nulls (from + k + 1)) (option_and_then (λ e. from_position e bytes) o) ≡ option_and_then (λ e. behind_from (drop (k + 1) columns) nulls (from + (k + 1)) e bytes) o
    behind None = refl
    behind (Some e) = onward columns nulls bytes from k e

-- one column further, the k-th from column `from` on, by its null bit
pub next_column : (columns : Layout) (storages : List told.Storage) (nulls bytes : List ℕ) (from k at : ℕ) (d : told.Storage) (end : Option ℕ)
    → from % 8 ≡ 0 → k < 8 → from + k < length storages → AreStored columns (drop from storages)
    → ((get_or nulls (from / 8) 0 / 2 ^ k) % 2 ≡ 0 → EndsAt (value_stored (storage_seen (get_or storages (from + k) d))) at bytes end)
    → ((get_or nulls (from / 8) 0 / 2 ^ k) % 2 ≡ 1 → end ≡ Some at)
    → behind_from (drop k columns) nulls (from + k) at bytes ≡ option_and_then (λ e. behind_from (drop (k + 1) columns) nulls (from + (k + 1)) e bytes) end
next_column columns storages nulls bytes from k at d end whole low h stored there absent =
    by_case ((get_or nulls (from / 8) 0 / 2 ^ k) % 2) (omega arith) refl
  where
    by_case : (n : ℕ) → n < 2 → (get_or nulls (from / 8) 0 / 2 ^ k) % 2 ≡ n → behind_from (drop k columns) nulls (from + k) at bytes ≡ option_and_then (λ e. behind_from (drop (k + 1) columns) nulls (from + (k + 1)) e bytes) end
    by_case zero below e = next_value columns storages nulls bytes from k at d end h stored (bit_clear nulls from k whole low e) (there e)
    by_case (suc zero) below e =
        let set : (get_or nulls (from / 8) 0 / 2 ^ k) % 2 ≢ 0 = λ none. absurd (omega (arith, e, none)) in
        next_null columns storages nulls bytes from k at h stored (bit_set nulls from k whole low set)
        ∙ ap (option_and_then (λ e. behind_from (drop (k + 1) columns) nulls (from + (k + 1)) e bytes)) (sym (absent e))
    by_case (suc (suc n)) below e = absurd (omega (arith, below))

-- more columns further, count of them from column `from` on
pub next_columns : (columns : Layout) (nulls bytes : List ℕ) (from count at : ℕ) → behind_from (drop count (drop from columns)) nulls (from + count) at bytes ≡ behind_from (drop (from + count) columns) nulls (from + count) at bytes
next_columns columns nulls bytes from count at = ap (λ (t : Layout). behind_from t nulls (from + count) at bytes) (drop-drop count from columns)

-- behind the last column
pub all_reached : (columns : Layout) (storages : List told.Storage) (nulls bytes : List ℕ) (i at : ℕ) → length storages ≤ i → AreStored columns storages → behind_from (drop i columns) nulls i at bytes ≡ from_position at bytes
all_reached columns storages nulls bytes i at h stored =
    let none : drop i columns ≡ [] = none_left (drop i columns) (subst (AreStored (drop i columns)) (drop_all i storages h) (stored_behind i columns storages stored)) in
    ap (λ (t : Layout). behind_from t nulls i at bytes) none ∙ past_all nulls i at bytes

-- there are as many storages as columns
pub as_many_stored : (columns : Layout) (storages : List told.Storage) → AreStored columns storages → length storages ≡ length columns
as_many_stored [] [] stored = refl
as_many_stored [] (storage ∷ storages) stored = absurd stored
as_many_stored (column ∷ columns) [] stored = absurd stored
as_many_stored (column ∷ columns) (storage ∷ storages) stored = let same = as_many_stored columns storages stored.1 in omega (arith, same)

-- the null bits of the columns
pub nulls_stored : (columns : Layout) (storages : List told.Storage) (n : ℕ) → AreStored columns storages → n ≡ length storages / 8 + min 1 (length storages % 8) → bitmap_len (length columns) ≡ n
nulls_stored columns storages n stored e = ap bitmap_len (sym (as_many_stored columns storages stored)) ∙ sym (e ∙ rounded_up (length storages))

-- ---- looking up

-- the first i storages are looked up: those of the others make them all
pub record LookedUp (kinds metadata : List ℕ) (storages : List told.Storage) (i : ℕ) (left : List ℕ) : Type 0 where
  pub known : list_all is_column (columns_of (drop i kinds) left) ≡ true
  pub so_far : (others : List told.Storage) → AreStored (columns_of (drop i kinds) left) others → AreStored (columns_of kinds metadata) (take i storages ++ others)

-- all of them
pub looked_up_all : (kinds metadata left : List ℕ) (storages : List told.Storage) (i : ℕ) → i ≡ length kinds → LookedUp kinds metadata storages i left → AreStored (columns_of kinds metadata) (take (length kinds) storages)
looked_up_all kinds metadata left storages i e l =
    let none : [] ≡ columns_of (drop i kinds) left = sym (ap (λ (t : List ℕ). columns_of t left) (drop_all i kinds (omega (arith, e)))) in
    let stored : AreStored [] [] = tt in
    let all = l.so_far [] (subst (λ (columns : Layout). AreStored columns []) none stored) in
    subst (AreStored (columns_of kinds metadata)) (append-nil (take i storages) ∙ ap (λ (n : ℕ). take n storages) e) all

-- ---- as an equation of lists, which a struct can hold

-- how columns are stored that are stored so
pub stored_lists : (columns : Layout) (storages : List told.Storage) → AreStored columns storages → map storage_of columns ≡ map (λ storage. Some (storage_seen storage)) storages
stored_lists [] [] stored = refl
stored_lists [] (storage ∷ storages) stored = absurd stored
stored_lists (column ∷ columns) [] stored = absurd stored
stored_lists (column ∷ columns) (storage ∷ storages) stored = let here = stored.0 in let others = stored_lists columns storages stored.1 in cc

-- and the reverse
pub stored_by_lists : (columns : Layout) (storages : List told.Storage) → map storage_of columns ≡ map (λ storage. Some (storage_seen storage)) storages → AreStored columns storages
stored_by_lists [] [] e = tt
stored_by_lists [] (storage ∷ storages) e = absurd (cc)
stored_by_lists (column ∷ columns) [] e = absurd (cc)
stored_by_lists (column ∷ columns) (storage ∷ storages) e = (cc, stored_by_lists columns storages cc)
