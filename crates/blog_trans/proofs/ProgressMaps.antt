-- The maps of a kept statement are the first maps that are used. `statement` has its events, the latest first.
use Rattle.std.proofs.Common.{rules, ◌≡◌, ℕ, Bool, true, false, ◌&&◌, ◌||◌, List, [], ◌∷◌, ◌++◌, filter, reverse, Option, Some, None, is_some, bytes_eq, refl, sym, ap, ◌∙◌, append-nil, arith}
use Rattle.std.specs.Option.{option_map_or}
use Rattle.std.specs.List.{AllByRecursion}
use Rattle.blog_event.specs.File.{Placed}
use Rattle.blog_row.specs.Kinds.{rows_of_kind}
use Rattle.blog_trans.specs.Selection.{Selection}
use Rattle.blog_trans.specs.Places.{is_rows, since, map_in}
use Rattle.blog_trans.specs.Acceptance.{is_selected, HavePassed}
use Rattle.blog_trans.specs.Groups.{PlacedRows, PlacedStatement, kept_rows, first_maps, statement_if}
use Rattle.blog_trans.specs.code.Progress.{Open, appended_if, with_rows, closed, progress}
use Rattle.blog_trans.specs.code.StatementMaps.{first_of_ids, is_used}
use Rattle.blog_trans.proofs.ProgressSteps.{reverse-behind, IsChecked}
use Rattle.blog_trans.proofs.ProgressRows.{AreChecked, kept_so_far, with-checked, found-stays}
use Rattle.blog_trans.proofs.ProgressState.{open-kept}
use Rattle.blog_trans.proofs.ProgressFirsts.{id_at, ids_of, is_id_among, IsFirst, bytes-own, bytes-same, and-false, first-filter, first-found}
use Rattle.blog_trans.proofs.KeptRows.{kept-facts}

-- ---- used maps

-- an id is that of a rows event, if there is one
abbrev has_id : Option PlacedRows → List ℕ → Bool
has_id o id = option_map_or (λ (r : PlacedRows). bytes_eq id (id_at r.event)) o false

-- an id is among those of rows events and one more
among-appended : (rows : List PlacedRows) (o : Option PlacedRows) (id : List ℕ) → is_id_among (ids_of (appended_if rows o)) id ≡ (has_id o id || is_id_among (ids_of rows) id)
among-appended rows None id = refl
among-appended [] (Some r) id = refl
among-appended (x ∷ rows) (Some r) id = grind (arith, among-appended rows (Some r) id)

-- what is known of a rows event and its map says whether the map is used by it
used-step : (kept : Option PlacedRows) (at : Option Placed) (m : Placed) (chosen : Placed → Bool) (has : PlacedRows → Bool) (one same : Bool)
    → ((r : PlacedRows) → kept ≡ Some r → (at ≡ Some r.map) × (chosen r.map ≡ true) × (one ≡ true) × (has r ≡ same))
    → (one ≡ true → (is_some at ≡ true) × ((c : Placed) → at ≡ Some c → chosen c ≡ true → is_some kept ≡ true))
    → (same ≡ true → (c : Placed) → at ≡ Some c → c ≡ m)
    → (chosen m && (one && same)) ≡ option_map_or has kept false
used-step None None m chosen has one same facts checked own = grind arith
used-step None (Some c) m chosen has one same facts checked own =
    grind (arith, λ (t : one ≡ true). (checked t).1 c refl, λ (t : same ≡ true). own t c refl)
used-step (Some r) at m chosen has one same facts checked own = grind (arith, facts r refl, λ (t : same ≡ true). own t r.map (facts r refl).0)

pub bytes-turned : (xs ys : List ℕ) → bytes_eq xs ys ≡ bytes_eq ys xs
bytes-turned xs ys = grind (arith, bytes-same xs ys, bytes-same ys xs, bytes-own xs)

-- a map is used by a rows event that is its statement's and of its id, if this is kept
used-latest : (sel : Selection) (m : Placed) (statement later : List Placed) (p : Placed) → (is_rows p ≡ true → IsChecked sel statement p)
    → map_in (reverse statement ++ p ∷ later) (id_at m) ≡ Some m → (is_selected sel m.event.body && (is_rows p && bytes_eq (id_at p) (id_at m))) ≡ has_id (kept_rows sel (reverse statement) p) (id_at m)
used-latest sel m statement later p checked found =
    used-step (kept_rows sel (reverse statement) p) (map_in (reverse statement) (id_at p)) m (λ x. is_selected sel x.event.body) _ (is_rows p) _
    (λ r is. let k = kept-facts sel (reverse statement) p r is in
    let has = ap (λ (x : Placed). bytes_eq (id_at m) (id_at x)) k.event_is ∙ bytes-turned (id_at m) (id_at p) in
    (k.found, k.selected, ap (λ j. is_some (rows_of_kind j)) k.kind_is, has))
    (λ one. let c = checked one in (c.found, c.kept))
    (λ same c at. grind (arith, found-stays (reverse statement) (p ∷ later) (id_at p) c at, bytes-same (id_at p) (id_at m) same))

-- the first map of an id is used if a kept rows event has the id
used-is : (sel : Selection) (m : Placed) (statement : List Placed) → AreChecked sel statement → (later : List Placed) → map_in (reverse statement ++ later) (id_at m) ≡ Some m
    → is_used sel statement m ≡ is_id_among (ids_of (kept_so_far sel statement)) (id_at m)
used-is sel m [] checked later found = and-false (is_selected sel m.event.body)
used-is sel m (p ∷ statement) checked later found =
    let behind = ap (λ l. map_in l (id_at m)) (sym (reverse-behind p statement later)) ∙ found in
    grind (arith, used-is sel m statement checked.1 (p ∷ later) behind, used-latest sel m statement later p checked.0 behind, among-appended)

-- two tests that answer alike leave the same
filter-same : {A : Type 0} (P : A → Type 0) (f g : A → Bool) → ((x : A) → P x → f x ≡ g x) → (xs : List A) → AllByRecursion P xs → filter f xs ≡ filter g xs
filter-same P f g each [] all = refl
filter-same P f g each (x ∷ xs) all = let others = filter-same P f g each xs all.1 in let same = each x all.0 in grind arith

-- the first maps of the ids of the kept rows events are the first maps that are used
pub used-maps : (sel : Selection) (statement : List Placed) → AreChecked sel statement
    → first_maps (ids_of (kept_so_far sel statement)) (reverse statement) ≡ filter (is_used sel statement) (first_of_ids statement)
used-maps sel statement checked =
    first-filter (ids_of (kept_so_far sel statement)) statement
    ∙ filter-same (IsFirst statement) (λ m. is_id_among (ids_of (kept_so_far sel statement)) (id_at m)) (is_used sel statement)
    (λ m found. sym (used-is sel m statement checked [] (ap (λ l. map_in l (id_at m)) (append-nil (reverse statement)) ∙ found)))
    (first_of_ids statement) (first-found statement)

-- ---- the end of a statement

-- a statement of these rows events with the used maps, if there is a rows event
abbrev pub used_statement : Selection → List Placed → List PlacedRows → Option PlacedStatement
used_statement sel statement [] = None
used_statement sel statement (r ∷ rows) = Some (record { maps = filter (is_used sel statement) (first_of_ids statement); rows = r ∷ rows })

statement-by : (sel : Selection) (statement : List Placed) (rows : List PlacedRows) → first_maps (ids_of rows) (reverse statement) ≡ filter (is_used sel statement) (first_of_ids statement)
    → statement_if (reverse statement) rows ≡ used_statement sel statement rows
statement-by sel statement rows maps = grind arith

-- the kept rows events of the open statement and one more event that passed
pub taken-rows : (sel : Selection) (earlier : List Placed) (p : Placed) (o : Open) → HavePassed sel (p ∷ earlier) → (progress sel earlier).current ≡ Some o
    → (with_rows (kept_rows sel (reverse (since earlier)) p) o).rows ≡ kept_so_far sel (p ∷ since earlier)
taken-rows sel earlier p o passed is = ap (λ l. appended_if l (kept_rows sel (reverse (since earlier)) p)) (open-kept sel earlier o passed.1 is)

-- the maps that they go by are the used first maps
pub taken-maps : (sel : Selection) (earlier : List Placed) (p : Placed) (o : Open) → HavePassed sel (p ∷ earlier) → (progress sel earlier).current ≡ Some o
    → first_maps (ids_of (with_rows (kept_rows sel (reverse (since earlier)) p) o).rows) (reverse (p ∷ since earlier))
    ≡ filter (is_used sel (p ∷ since earlier)) (first_of_ids (p ∷ since earlier))
taken-maps sel earlier p o passed is = search (rules, taken-rows, used-maps, with-checked)

-- the statement that they make has these
pub taken-statement : (sel : Selection) (earlier : List Placed) (p : Placed) (o : Open) → HavePassed sel (p ∷ earlier) → (progress sel earlier).current ≡ Some o
    → statement_if (reverse (p ∷ since earlier)) (with_rows (kept_rows sel (reverse (since earlier)) p) o).rows
    ≡ used_statement sel (p ∷ since earlier) (with_rows (kept_rows sel (reverse (since earlier)) p) o).rows
taken-statement sel earlier p o passed is = search (rules, statement-by, taken-maps)

-- and is what the open transaction has at the statement's end
pub taken-closed : (sel : Selection) (earlier : List Placed) (p : Placed) (o : Open) → HavePassed sel (p ∷ earlier) → (progress sel earlier).current ≡ Some o
    → closed (reverse (p ∷ since earlier)) (with_rows (kept_rows sel (reverse (since earlier)) p) o)
    ≡ record {
      begin = o.begin;
      statements = appended_if o.statements (used_statement sel (p ∷ since earlier) (with_rows (kept_rows sel (reverse (since earlier)) p) o).rows);
      rows = [];
    }
taken-closed sel earlier p o passed is = ap (λ s. record { begin = o.begin; statements = appended_if o.statements s; rows = [] }) (taken-statement sel earlier p o passed is)
