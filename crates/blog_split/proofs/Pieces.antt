-- A piece of a well-formed statement is one.
use Rattle.std.proofs.Common.{◌≡◌, ℕ, Bool, true, false, ◌||◌, if◌then◌else◌, List, [], ◌∷◌, ◌++◌, map, filter, find, bytes_eq, Some, refl, sym, ap, ◌∙◌}
use Rattle.std.specs.List.{AllByRecursion, IsDistinct, flat_map, list_any}
use Rattle.std.proofs.lemmas.Bool.{and_parts, false≢true}
use Rattle.std.proofs.lemmas.Option.{same_Some}
use Rattle.blog_event.specs.Event.{Event}
use Rattle.blog_row.specs.RowsEvent.{table_id}
use Rattle.blog_row.specs.Kinds.{kind_of, is_map_kind}
use Rattle.blog_trans.specs.Groups.{RowsEvent, Statement}
use Rattle.blog_trans.proofs.PlacedParts.{all-by, all-both, all-filter, all-found}
use Rattle.blog_flash.proofs.Formed.{is_map_of_id, IsMapEvent, IsRowsEvent, AreDistinct, IsUsed, IsStatement}
use Rattle.blog_split.specs.Cuts.{IsPiece, is_used_by, piece_statement}

-- ---- lists

-- what is found stays the first where it is kept
find-kept : {A : Type 0} (p q : A → Bool) (xs : List A) (y : A) → q y ≡ true → find p xs ≡ Some y → find p (filter q xs) ≡ Some y
find-kept p q [] y kept e = e
find-kept p q (x ∷ xs) y kept e = by_case (p x) refl (q x) refl (find-kept p q xs y kept) e
  where
    by_case : (b : Bool) → p x ≡ b → (c : Bool) → q x ≡ c → (find p xs ≡ Some y → find p (filter q xs) ≡ Some y) → (if b then Some x else find p xs) ≡ Some y
        → find p (if c then x ∷ filter q xs else filter q xs) ≡ Some y
    by_case true is true stays more h = rw is h
    by_case true is false leaves more h = absurd (false≢true (sym leaves ∙ ap q (same_Some x y h) ∙ kept))
    by_case false is true stays more h = rw is (more h)
    by_case false is false leaves more h = more h

-- what each of two joined lists has
pub all-parts : {A : Type 0} (P : A → Type 0) (xs ys : List A) → AllByRecursion P (xs ++ ys) → AllByRecursion P xs × AllByRecursion P ys
all-parts P [] ys all = (tt, all)
all-parts P (x ∷ xs) ys all = let more = all-parts P xs ys all.1 in ((all.0, more.0), more.1)

or-second : (a b : Bool) → b ≡ true → (a || b) ≡ true
or-second true b e = refl
or-second false b e = e

-- what the element passes, some element passes
abbrev IsAmong : {A : Type 0} → List A → A → Type 0
IsAmong {A = A} xs x = (test : A → Bool) → test x ≡ true → list_any test xs ≡ true

-- each element of a list is one
each-among : {A : Type 0} (xs : List A) → AllByRecursion (IsAmong xs) xs
each-among [] = tt
each-among (x ∷ xs) =
    ((λ test is. rw is refl), all-by (IsAmong xs) (IsAmong (x ∷ xs)) (λ y among test is. or-second (test x) (list_any test xs) (among test is)) xs (each-among xs))

-- ---- maps

-- what holds of the ids of maps holds of those that are kept
ids-kept : (P : List ℕ → Type 0) (test : Event → Bool) (maps : List Event) → AllByRecursion P (map (λ m. table_id m.body) maps) → AllByRecursion P (map (λ m. table_id m.body) (filter test maps))
ids-kept P test [] all = tt
ids-kept P test (m ∷ maps) all = by_case (test m) (ids-kept P test maps all.1)
  where
    by_case : (b : Bool) → AllByRecursion P (map (λ m. table_id m.body) (filter test maps))
        → AllByRecursion P (map (λ m. table_id m.body) (if b then m ∷ filter test maps else filter test maps))
    by_case true more = (all.0, more)
    by_case false more = more

-- maps that are kept have different ids
distinct-kept : (test : Event → Bool) (maps : List Event) → AreDistinct maps → AreDistinct (filter test maps)
unfolding IsDistinct
distinct-kept test [] distinct = tt
distinct-kept test (m ∷ maps) distinct = by_case (test m) (distinct-kept test maps distinct.1)
  where
    by_case : (b : Bool) → AreDistinct (filter test maps) → AreDistinct (if b then m ∷ filter test maps else filter test maps)
    by_case true more = (ids-kept (λ id. bytes_eq (table_id m.body) id ≡ false) test maps distinct.0, more)
    by_case false more = more

-- ---- rows events

-- a rows event among some finds its map among those that these use
row-kept : (Known : Event → Type 0) (maps : List Event) (piece : List RowsEvent) (r : RowsEvent) → AllByRecursion (IsMapEvent Known) maps → IsRowsEvent maps r → IsAmong piece r
    → IsRowsEvent (filter (is_used_by piece) maps) r
row-kept Known maps piece r formed h among =
    let m : Event = h.found.0 in
    let is = (all-found (IsMapEvent Known) (is_map_of_id r.content.id) maps m formed h.found.1).1 in
    let own : bytes_eq (table_id m.body) r.content.id ≡ true = (and_parts (is_map_kind (kind_of m)) (bytes_eq (table_id m.body) r.content.id) is).1 in
    let used : is_used_by piece m ≡ true = among (λ x. bytes_eq (table_id m.body) x.content.id) own in
    record {
      found = (m, find-kept (is_map_of_id r.content.id) (is_used_by piece) maps m used h.found.1, h.found.2);
      names = h.names;
      flags = h.flags;
      even = h.even;
      content = h.content;
      timestamp_fits = h.timestamp_fits;
      server_id_fits = h.server_id_fits;
      header_flags_fit = h.header_flags_fit;
    }

-- ---- statements

-- a piece of a statement
pub piece-formed : (Known : Event → Type 0) (s : Statement) (r : RowsEvent) (rest : List RowsEvent) → IsStatement Known s → AllByRecursion (IsRowsEvent s.maps) (r ∷ rest)
    → IsStatement Known (piece_statement s (r ∷ rest))
piece-formed Known s r rest h rows =
    let piece : List RowsEvent = r ∷ rest in
    let kept = all-filter (IsMapEvent Known) (is_used_by piece) s.maps h.maps_formed in
    let both = all-both (IsRowsEvent s.maps) (IsAmong piece) piece rows (each-among piece) in
    record {
      maps_formed = all-by _ (IsMapEvent Known) (λ m is. is.0) (filter (is_used_by piece) s.maps) kept;
      distinct = distinct-kept (is_used_by piece) s.maps h.distinct;
      used = all-by _ (IsUsed piece) (λ m is. is.1) (filter (is_used_by piece) s.maps) kept;
      rows_formed = all-by _ (IsRowsEvent (filter (is_used_by piece) s.maps)) (λ x is. row-kept Known s.maps piece x h.maps_formed is.0 is.1) piece both;
      some = (r, rest, refl);
    }

-- all pieces
pub pieces-formed : (Known : Event → Type 0) (limit : ℕ) (s : Statement) (pieces : List (List RowsEvent)) → IsStatement Known s → AllByRecursion (IsPiece limit s.maps) pieces
    → AllByRecursion (IsRowsEvent s.maps) (flat_map (λ piece. piece) pieces) → AllByRecursion (IsStatement Known) (map (piece_statement s) pieces)
pieces-formed Known limit s [] h are rows = tt
pieces-formed Known limit s ([] ∷ pieces) h are rows = absurd are.0
pieces-formed Known limit s ((r ∷ rest) ∷ pieces) h are rows =
    let parts = all-parts (IsRowsEvent s.maps) (r ∷ rest) (flat_map (λ piece. piece) pieces) rows in
    (piece-formed Known s r rest h parts.0, pieces-formed Known limit s pieces h are.1 parts.1)
