-- How the code goes through the values of an image by how the columns are stored.
use Rattle.std.proofs.Common.{◌≡◌, ◌<◌, ◌≤◌, ℕ, ◌+◌, true, false, is_some, List, [], ◌∷◌, length, take, drop, get_or, Option, Some, None, refl, sym, ap, ◌∙◌, subst, arith}
use Rattle.std.proofs.lemmas.List.{drop_all, drop-drop, drop_more, get_or-take}
use Rattle.blog_row.specs.declared.column.Storage as told
use Rattle.blog_row.specs.Column.{Column, Layout, value_stored}
use Rattle.blog_row.specs.Image.{is_marked, values_front}
use Rattle.blog_row.specs.code.StorageView.{AreStored, AreLookedUp, storage_seen}
use Rattle.blog_row.specs.code.StoredLayoutView.{IsStoredAt}
use Rattle.blog_row.proofs.Walking.{front_is}
use Rattle.blog_row.proofs.StorageWalking.{First, first, stored_behind, as_many_stored, stored_by_lists}
use Rattle.blog_row.proofs.ValueWalking.{FirstOf, row_read, none_read, null_first, value_first, value_there}

-- ---- how a column is stored

-- the columns behind a column
pub columns_behind : (columns : Layout) (i : ℕ) (column : Column) (others : Layout) → drop i columns ≡ column ∷ others → others ≡ drop (i + 1) columns
columns_behind columns i column others e = sym (ap (λ (t : Layout). drop 1 t) e) ∙ drop-drop 1 i columns

-- a column whose storage was looked up
pub stored_looked_up : (columns : Layout) (storages : Option (List told.Storage)) (all : List told.Storage) (i : ℕ) (d : told.Storage) → storages ≡ Some all → AreLookedUp columns storages → i < length columns
    → IsStoredAt columns i (get_or all i d)
stored_looked_up columns storages all i d e known below =
    let own : List told.Storage = take (length columns) all in
    let there : AreLookedUp columns (Some all) = subst (AreLookedUp columns) e known in
    let stored : AreStored columns own = stored_by_lists columns own there.1 in
    let long : i < length own = let same = as_many_stored columns own stored in omega (arith, same, below) in
    let f : First (drop i columns) (get_or own i d) = first (drop i columns) (get_or own i d) (drop (i + 1) own) (subst (AreStored (drop i columns)) (drop_more own i d long) (stored_behind i columns own stored)) in
    let same : get_or own i d ≡ get_or all i d = get_or-take (length columns) all i d below in
    subst (IsStoredAt columns i) same (f.column, f.are ∙ ap (λ (t : Layout). f.column ∷ t) (drop-drop 1 i columns), f.here)

-- ---- the next value

-- it is NULL
pub null_next : (columns : Layout) (i : ℕ) (storage : told.Storage) (nulls bytes : List ℕ) → IsStoredAt columns i storage → is_marked nulls i ≡ true → is_some (values_front (drop i columns) nulls i bytes) ≡ true
    → FirstOf (values_front (drop i columns) nulls i bytes) None (values_front (drop (i + 1) columns) nulls (i + 1) bytes)
null_next columns i storage nulls bytes here marked whole =
    subst (λ (t : Layout). FirstOf (values_front t nulls i bytes) None (values_front (drop (i + 1) columns) nulls (i + 1) bytes)) (sym here.1)
    (null_first here.0 (drop (i + 1) columns) nulls i bytes marked (subst (λ (t : Layout). is_some (values_front t nulls i bytes) ≡ true) here.1 whole))

-- it is there
pub value_next : (columns : Layout) (i : ℕ) (storage : told.Storage) (nulls bytes value after : List ℕ) → IsStoredAt columns i storage → is_marked nulls i ≡ false → value_stored (storage_seen storage) bytes ≡ Some (value, after)
    → is_some (values_front (drop i columns) nulls i bytes) ≡ true → FirstOf (values_front (drop i columns) nulls i bytes) (Some value) (values_front (drop (i + 1) columns) nulls (i + 1) after)
value_next columns i storage nulls bytes value after here marked read whole =
    subst (λ (t : Layout). FirstOf (values_front t nulls i bytes) (Some value) (values_front (drop (i + 1) columns) nulls (i + 1) after)) (sym here.1)
    (value_first here.0 (drop (i + 1) columns) nulls i bytes value after marked (front_is here.0 (storage_seen storage) bytes here.2 ∙ read) (subst (λ (t : Layout). is_some (values_front t nulls i bytes) ≡ true) here.1 whole))

-- it can't be absent
pub value_is_there : {P : Type 0} (columns : Layout) (i : ℕ) (storage : told.Storage) (nulls bytes : List ℕ) → IsStoredAt columns i storage → is_marked nulls i ≡ false → value_stored (storage_seen storage) bytes ≡ None
    → is_some (values_front (drop i columns) nulls i bytes) ≡ true → P
value_is_there {P} columns i storage nulls bytes here marked read whole =
    value_there {P = P} here.0 (drop (i + 1) columns) nulls i bytes marked (front_is here.0 (storage_seen storage) bytes here.2 ∙ read) (subst (λ (t : Layout). is_some (values_front t nulls i bytes) ≡ true) here.1 whole)

-- ---- behind the last column

-- no values are left
pub none_next : (columns : Layout) (i : ℕ) (nulls bytes : List ℕ) → length columns ≤ i → row_read (values_front (drop i columns) nulls i bytes) ≡ []
none_next columns i nulls bytes h = ap (λ (t : Layout). row_read (values_front t nulls i bytes)) (drop_all i columns h) ∙ none_read nulls i bytes

no_columns : (nulls bytes : List ℕ) (i : ℕ) → is_some (values_front [] nulls i bytes) ≡ true
unfolding values_front
no_columns nulls bytes i = refl

-- and none is cut off
pub none_imaged : (columns : Layout) (i : ℕ) (nulls bytes : List ℕ) → length columns ≤ i → is_some (values_front (drop i columns) nulls i bytes) ≡ true
none_imaged columns i nulls bytes h = ap (λ (t : Layout). is_some (values_front t nulls i bytes)) (drop_all i columns h) ∙ no_columns nulls bytes i
