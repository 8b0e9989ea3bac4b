-- The first maps of table ids. `statement` has the events of a statement, the latest first.
use Rattle.std.proofs.Common.{◌≡◌, ℕ, Bool, true, false, ◌&&◌, not, if◌then◌else◌, List, [], ◌∷◌, ◌++◌, map, filter, find, reverse, Some, None, bytes_eq, refl, append-nil, arith}
use Rattle.std.specs.List.{AllByRecursion, list_any}
pub use Rattle.std.proofs.Math.Bool.{and-false}
use Rattle.std.proofs.lemmas.List.Elements.{filter-append}
use Rattle.std.proofs.lemmas.List.Folds.{find-append}
use Rattle.std.proofs.lemmas.List.Sorted.{list_any-IsPermutation, IsPermutation-reverse}
use Rattle.std.proofs.lemmas.Map.Views.{any-filter_same}
use Rattle.std.proofs.lemmas.Slice.Eq.{bytes_eq-Decides}
use Rattle.blog_event.specs.File.{Placed}
use Rattle.blog_row.specs.RowsEvent.{table_id}
use Rattle.blog_row.proofs.ReversedRows.{all-append}
use Rattle.blog_trans.specs.Places.{is_map, is_map_of, map_in}
use Rattle.blog_trans.specs.Groups.{PlacedRows, first_maps}
use Rattle.blog_trans.specs.code.StatementMaps.{first_of_ids}
use Rattle.blog_trans.proofs.PlacedParts.{all-by}
use Rattle.blog_trans.proofs.ProgressSteps.{reverse-latest}
use Rattle.blog_trans.proofs.ProgressRows.{found-stays}

-- ---- table ids

-- the table id of an event
abbrev pub id_at : Placed → List ℕ
id_at p = table_id p.event.body

-- those of rows events
abbrev pub ids_of : List PlacedRows → List (List ℕ)
ids_of rows = map (λ x. table_id x.event.event.body) rows

-- an id is one of these
abbrev pub is_id_among : List (List ℕ) → List ℕ → Bool
is_id_among ids id = list_any (λ other. bytes_eq id other) ids

-- those of the ids that aren't this one
abbrev pub without_id : List ℕ → List (List ℕ) → List (List ℕ)
without_id id ids = filter (λ other. not (bytes_eq id other)) ids

-- bytes are themselves
pub bytes-own : (xs : List ℕ) → bytes_eq xs xs ≡ true
bytes-own xs = (bytes_eq-Decides xs xs).1 refl

-- bytes that are tested as one are one
pub bytes-same : (xs ys : List ℕ) → bytes_eq xs ys ≡ true → xs ≡ ys
bytes-same xs ys = (bytes_eq-Decides xs ys).0

-- another one of them is still among them
pub among-without : (id other : List ℕ) (ids : List (List ℕ)) → is_id_among (without_id id ids) other ≡ (not (bytes_eq id other) && is_id_among ids other)
among-without id other ids = grind (arith, any-filter_same, bytes-same)

-- ---- the first maps of ids

-- the latest event, where it is one of them
abbrev last_if : List (List ℕ) → List Placed → Placed → List Placed
last_if ids events p = if is_map p && (is_id_among ids (id_at p) && not (list_any (is_map_of (id_at p)) events)) then p ∷ [] else []

first-step : (ids : List (List ℕ)) (xs : List Placed) (x p : Placed)
    → first_maps (without_id (id_at x) ids) (xs ++ p ∷ []) ≡ first_maps (without_id (id_at x) ids) xs ++ last_if (without_id (id_at x) ids) xs p
    → first_maps ids (xs ++ p ∷ []) ≡ first_maps ids xs ++ last_if ids xs p
    → first_maps ids (x ∷ (xs ++ p ∷ [])) ≡ first_maps ids (x ∷ xs) ++ last_if ids (x ∷ xs) p
first-step ids xs x p others all = grind (arith, among-without (id_at x) (id_at p) ids, bytes-same (id_at x) (id_at p))

-- the latest event is among them if it is a map of one of the ids, and the first of its id
first-latest : (ids : List (List ℕ)) (events : List Placed) (p : Placed)
    → first_maps ids (events ++ p ∷ []) ≡ first_maps ids events ++ last_if ids events p
first-latest ids [] p = grind arith
first-latest ids (x ∷ xs) p = first-step ids xs x p (first-latest (without_id (id_at x) ids) xs p) (first-latest ids xs p)

-- they are those of the ids among the first maps
pub first-filter : (ids : List (List ℕ)) (statement : List Placed) → first_maps ids (reverse statement) ≡ filter (λ m. is_id_among ids (id_at m)) (first_of_ids statement)
first-filter ids [] = refl
first-filter ids (p ∷ statement) =
    grind (arith, first-filter ids statement, reverse-latest, first-latest, list_any-IsPermutation, IsPermutation-reverse, filter-append, append-nil)

-- nothing is found that isn't there
find-none : {A : Type 0} (test : A → Bool) (xs : List A) → list_any test xs ≡ false → find test xs ≡ None
find-none test [] e = refl
find-none test (x ∷ xs) e = let more = find-none test xs in grind arith

-- each is found by its id
abbrev pub IsFirst : List Placed → Placed → Type 0
IsFirst statement m = map_in (reverse statement) (id_at m) ≡ Some m

pub first-found : (statement : List Placed) → AllByRecursion (IsFirst statement) (first_of_ids statement)
first-found [] = tt
first-found (p ∷ statement) =
    let any = list_any-IsPermutation (is_map_of (id_at p)) statement (reverse statement) (IsPermutation-reverse statement) in
    grind (arith, first-found statement, reverse-latest, found-stays, find-append, find-none, bytes-own, all-by, all-append)
