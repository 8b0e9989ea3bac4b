-- Walking over type bytes, and over the metadata bytes of their columns.
use Rattle.std.proofs.Common.{◌≡◌, ◌<◌, ◌≤◌, ◌+◌, ◌-◌, ◌*◌, ℕ, zero, suc, min, Bool, true, false, ◌&&◌, cond, List, [], ◌∷◌, length, take, drop, get_or, Option, Some, None, is_some, unwrap_or, refl, sym, ap, ◌∙◌, arith, add-one, length-take, drop-drop}
use Rattle.std.proofs.Math.Seq.{drop-cons}
use Rattle.std.proofs.lemmas.Bool.{and_parts, and_from}
use Rattle.std.proofs.lemmas.List.{drop_all}
use Rattle.std.specs.List.{list_all}
use Rattle.blog_row.specs.Column.{metadata_len_of, storage_by, is_column, own_metadata_len, metadata_total, columns_of}
use Rattle.blog_row.specs.code.LayoutReading.{column_here, are_known, total_of, marked_metadata_len, marked_total}
use Rattle.blog_row.proofs.ColumnTypes.{column_len, len_few, stored_without}

-- the type at i, and those after it
pub split_index : (kinds : List ℕ) (i : ℕ) → i < length kinds → drop i kinds ≡ get_or kinds i 0 ∷ drop (i + 1) kinds
split_index kinds i h = rw (add-one, drop-cons kinds i 0 h)

-- the metadata of a type of the profile
pub own_is : (kind n : ℕ) → metadata_len_of kind ≡ Some n → own_metadata_len kind ≡ n
own_is kind n e = ap (λ o. unwrap_or o 0) e

-- ---- how much metadata the types have

-- with a mark for each type that the profile lacks, no more than so many
marked_few : (kind : ℕ) → marked_metadata_len kind ≤ 16384
marked_few kind = by_len (metadata_len_of kind) refl
  where
    by_len : (o : Option ℕ) → metadata_len_of kind ≡ o → unwrap_or o 16384 ≤ 16384
    by_len None e = omega arith
    by_len (Some len) e = omega (arith, len_few kind len e)

pub total_few : (kinds : List ℕ) → marked_total kinds ≤ 16384 * length kinds
total_few [] = omega arith
total_few (kind ∷ kinds) = omega (arith, marked_few kind, total_few kinds)

-- a type of the profile counts as it is
known_marked : (kind : ℕ) → is_some (metadata_len_of kind) ≡ true → (marked_metadata_len kind ≡ own_metadata_len kind) × (own_metadata_len kind ≤ 2)
known_marked kind e = by_len (metadata_len_of kind) refl e
  where
    by_len : (o : Option ℕ) → metadata_len_of kind ≡ o → is_some o ≡ true → (unwrap_or o 16384 ≡ unwrap_or o 0) × (unwrap_or o 0 ≤ 2)
    by_len None there h = absurd (cc)
    by_len (Some len) there h = (refl, len_few kind len there)

known_sum : (kinds : List ℕ) → are_known kinds ≡ true → (marked_total kinds ≡ metadata_total kinds) × (marked_total kinds ≤ 2 * length kinds)
known_sum [] e = (refl, omega arith)
known_sum (kind ∷ kinds) e =
    let parts = and_parts (is_some (metadata_len_of kind)) (are_known kinds) e in
    let own = known_marked kind parts.0 in
    let others = known_sum kinds parts.1 in
    (omega (arith, own.0, others.0), omega (arith, own.0, own.1, others.1))

-- another shows, wherever it stands
unknown_among : (o : Option ℕ) (known : Bool) (total : ℕ) → (is_some o && known) ≡ false → (known ≡ false → 16384 ≤ total) → 16384 ≤ unwrap_or o 16384 + total
unknown_among None known total e others = omega arith
unknown_among (Some len) known total e others = omega (arith, others e)

unknown_sum : (kinds : List ℕ) → are_known kinds ≡ false → 16384 ≤ marked_total kinds
unknown_sum [] e = absurd (cc)
unknown_sum (kind ∷ kinds) e = unknown_among (metadata_len_of kind) (are_known kinds) (marked_total kinds) e (unknown_sum kinds)

-- so the sum of few types says whether the profile has each of them
pub sum_of_known : (kinds : List ℕ) (total : ℕ) → total ≡ marked_total kinds → total ≤ 8192 → total_of kinds ≡ Some total
sum_of_known kinds total is low = by_test (are_known kinds) refl
  where
    by_test : (known : Bool) → are_known kinds ≡ known → cond known (Some (metadata_total kinds)) None ≡ Some total
    by_test true e = ap Some (sym (is ∙ (known_sum kinds e).0))
    by_test false e = absurd (omega (arith, is, low, unknown_sum kinds e))

pub sum_of_unknown : (kinds : List ℕ) (total : ℕ) → total ≡ marked_total kinds → length kinds ≤ 4096 → 8192 < total → total_of kinds ≡ None
sum_of_unknown kinds total is few high = by_test (are_known kinds) refl
  where
    by_test : (known : Bool) → are_known kinds ≡ known → cond known (Some (metadata_total kinds)) None ≡ None
    by_test true e = absurd (omega (arith, is, few, high, (known_sum kinds e).1))
    by_test false e = refl

-- the sum of the first i types, where there are no more
pub whole_sum : (kinds : List ℕ) (i total : ℕ) → length kinds ≤ i → total + marked_total (drop i kinds) ≡ marked_total kinds → total ≡ marked_total kinds
whole_sum kinds i total all e = omega (arith, e, ap marked_total (drop_all i kinds all))

-- ---- columns of the profile

-- the metadata of a column is there
pub own_fits : (kind : ℕ) (metadata : List ℕ) → is_column (column_here kind metadata) ≡ true → own_metadata_len kind ≤ length metadata
own_fits kind metadata e =
    let long : own_metadata_len kind ≡ length (take (own_metadata_len kind) metadata) = own_is kind _ (column_len (column_here kind metadata) e) in
    omega (arith, long, length-take (own_metadata_len kind) metadata)

-- what is known of a column of the profile at the front, and of those after it
pub record KnownAt (kind : ℕ) (metadata kinds : List ℕ) : Type 0 where
  pub len : metadata_len_of kind ≡ Some (own_metadata_len kind)
  pub fits : own_metadata_len kind ≤ length metadata
  pub stored : is_column (column_here kind metadata) ≡ true
  pub others : list_all is_column (columns_of kinds (drop (own_metadata_len kind) metadata)) ≡ true

pub known_at : (kind : ℕ) (metadata kinds : List ℕ) → list_all is_column (columns_of (kind ∷ kinds) metadata) ≡ true → KnownAt kind metadata kinds
known_at kind metadata kinds e =
    let parts = and_parts (is_column (column_here kind metadata)) (list_all is_column (columns_of kinds (drop (own_metadata_len kind) metadata))) e in
    let own : metadata_len_of kind ≡ Some (length (take (own_metadata_len kind) metadata)) = column_len (column_here kind metadata) parts.0 in
    let long : own_metadata_len kind ≡ length (take (own_metadata_len kind) metadata) = own_is kind _ own in
    record {
      len = own ∙ ap Some (sym long);
      fits = omega (arith, long, length-take (own_metadata_len kind) metadata);
      stored = parts.0;
      others = parts.1;
    }

-- the same of the column at i
pub known_here : (kinds metadata : List ℕ) (i : ℕ) → i < length kinds → list_all is_column (columns_of (drop i kinds) metadata) ≡ true → KnownAt (get_or kinds i 0) metadata (drop (i + 1) kinds)
known_here kinds metadata i h e = known_at (get_or kinds i 0) metadata (drop (i + 1) kinds) (rw (split_index kinds i h) at e)

-- ---- are the columns of the profile?

-- the first i columns are, and the metadata of the others begins at a place
pub record Stored (kinds metadata : List ℕ) (i at : ℕ) : Type 0 where
  pub known : are_known (drop i kinds) ≡ true
  pub whole : at + metadata_total (drop i kinds) ≡ length metadata
  pub so_far : list_all is_column (columns_of (drop i kinds) (drop at metadata)) ≡ list_all is_column (columns_of kinds metadata)

own_there : (kind : ℕ) → is_some (metadata_len_of kind) ≡ true → metadata_len_of kind ≡ Some (own_metadata_len kind)
own_there kind e = by_len (metadata_len_of kind) e
  where
    by_len : (o : Option ℕ) → is_some o ≡ true → o ≡ Some (unwrap_or o 0)
    by_len None h = absurd (cc)
    by_len (Some len) h = refl

-- types of the profile that have no metadata together
pub columns_without : (kinds metadata : List ℕ) → are_known kinds ≡ true → metadata_total kinds ≡ 0 → list_all is_column (columns_of kinds metadata) ≡ true
columns_without [] metadata known none = refl
columns_without (kind ∷ kinds) metadata known none =
    let parts = and_parts (is_some (metadata_len_of kind)) (are_known kinds) known in
    let own : own_metadata_len kind ≡ 0 = omega (arith, none) in
    let long : length (take (own_metadata_len kind) metadata) ≡ 0 = omega (arith, own, length-take (own_metadata_len kind) metadata) in
    let len : metadata_len_of kind ≡ Some (length (take (own_metadata_len kind) metadata)) = own_there kind parts.0 ∙ ap Some (own ∙ sym long) in
    and_from (is_column (column_here kind metadata)) (list_all is_column (columns_of kinds (drop (own_metadata_len kind) metadata)))
    (stored_without kind (take (own_metadata_len kind) metadata) len long)
    (columns_without kinds (drop (own_metadata_len kind) metadata) parts.1 (omega (arith, none)))

-- the metadata at a place, by the two bytes there; where fewer are left, the last again
own_bytes : (n : ℕ) (metadata : List ℕ) (at first second : ℕ) → n ≤ 2 → at + n ≤ length metadata → first ≡ min at (length metadata - 1) → second ≡ min (at + 1) (length metadata - 1)
    → take n (drop at metadata) ≡ take n (get_or metadata first 0 ∷ get_or metadata second 0 ∷ [])
own_bytes zero metadata at first second few fits is_first is_second = refl
own_bytes (suc zero) metadata at first second few fits is_first is_second =
    let here : first ≡ at = omega arith in
    rw (here, split_index metadata at (omega arith)) refl
own_bytes (suc (suc zero)) metadata at first second few fits is_first is_second =
    let here : first ≡ at = omega arith in
    let next : second ≡ at + 1 = omega arith in
    rw (here, next, split_index metadata at (omega arith), split_index metadata (at + 1) (omega arith)) refl
own_bytes (suc (suc (suc n))) metadata at first second few fits is_first is_second = absurd (omega arith)

-- whether the column at i is one, by these bytes, decides it of the columns up to there
pub record StoredNext (kinds metadata : List ℕ) (i at first second : ℕ) : Type 0 where
  pub next : is_column (column_here (get_or kinds i 0) (get_or metadata first 0 ∷ get_or metadata second 0 ∷ [])) ≡ true
      → Stored kinds metadata (i + 1) (at + own_metadata_len (get_or kinds i 0))
  pub none : is_column (column_here (get_or kinds i 0) (get_or metadata first 0 ∷ get_or metadata second 0 ∷ [])) ≡ false
      → list_all is_column (columns_of kinds metadata) ≡ false

pub stored_next : (kinds metadata : List ℕ) (i at first second : ℕ) → Stored kinds metadata i at → i < length kinds → first ≡ min at (length metadata - 1) → second ≡ min (at + 1) (length metadata - 1)
    → StoredNext kinds metadata i at first second
stored_next kinds metadata i at first second so h is_first is_second =
    let kind = get_or kinds i 0 in
    let own = own_metadata_len kind in
    let split = split_index kinds i h in
    let parts = and_parts (is_some (metadata_len_of kind)) (are_known (drop (i + 1) kinds)) (rw split at so.known) in
    let total : metadata_total (drop i kinds) ≡ own + metadata_total (drop (i + 1) kinds) = ap metadata_total split in
    let same = own_bytes own metadata at first second (known_marked kind parts.0).1 (omega (arith, total, so.whole)) is_first is_second in
    let here : is_column (column_here kind (drop at metadata)) ≡ is_column (column_here kind (get_or metadata first 0 ∷ get_or metadata second 0 ∷ [])) =
    ap (λ (bytes : List ℕ). is_some (storage_by kind bytes)) same in
    let on : (is_column (column_here kind (drop at metadata)) && list_all is_column (columns_of (drop (i + 1) kinds) (drop own (drop at metadata)))) ≡ list_all is_column (columns_of kinds metadata) =
    ap (λ (t : List ℕ). list_all is_column (columns_of t (drop at metadata))) (sym split) ∙ so.so_far in
    record {
      next = λ e. record {
        known = parts.1;
        whole = omega (arith, total, so.whole);
        so_far = ap (λ (t : List ℕ). list_all is_column (columns_of (drop (i + 1) kinds) t)) (sym (drop-drop own at metadata)) ∙ rw (here ∙ e) at on;
      };
      none = λ e. sym (rw (here ∙ e) at on);
    }
