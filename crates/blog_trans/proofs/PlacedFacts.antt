-- The facts of each group of events.
use Rattle.std.proofs.Common.{rules, ◌≡◌, ℕ, Bool, true, false, ◌||◌, List, [], ◌∷◌, map, reverse, Option, Some, bytes_eq, refl, sym, ap, subst, ◌∙◌, arith}
use Rattle.std.specs.Option.{option_map_or}
use Rattle.std.specs.List.{AllByRecursion, IsDistinct, filter_map, list_any, Contains}
use Rattle.std.proofs.lemmas.Bool.{and_parts, or_left, or_right, false≢true}
use Rattle.std.proofs.lemmas.List.{reverse-reverse}
use Rattle.std.proofs.lemmas.List.Elements.{All-contains_itself, recursion_from_All}
use Rattle.std.proofs.lemmas.Option.{none-some, same_Some}
use Rattle.blog_event.specs.File.{Placed}
use Rattle.blog_trans.specs.Selection.{Selection}
use Rattle.blog_trans.specs.Places.{map_in}
use Rattle.blog_trans.specs.Groups.{PlacedRows, PlacedStatement, PlacedTransaction, Span, kept_rows, first_maps, statement_if, kept_statement, transaction_if, kept_transaction, placed_groups_in}
use Rattle.blog_trans.specs.PlacedFacts.{IsPlacedMap, IsPlacedRows, IsPlacedStatement, IsPlacedTransaction}
use Rattle.blog_trans.proofs.ProgressFirsts.{id_at, ids_of, is_id_among, without_id, bytes-own, bytes-same, among-without, first-filter, first-found}
use Rattle.blog_trans.proofs.KeptRows.{IsKeptOf, under-found, kept-facts}
use Rattle.blog_trans.proofs.PlacedParts.{all-by, all-both, all-map, all-filter, all-found, all-given, any-map, IsSpanOf, spans-all, statements-all}

-- ---- maps

-- where the test of an option holds, it has a value
tested : {A : Type 0} (o : Option A) (test : A → Bool) → option_map_or test o false ≡ true → (x : A) × (o ≡ Some x)
tested o test e = grind arith

-- the map by which a kept rows event of such events goes
map-placed : (Member : Placed → Type 0) (sel : Selection) (events : List Placed) (p : Placed) (r : PlacedRows) → AllByRecursion Member events → IsKeptOf sel events p r → IsPlacedMap Member sel r.map
map-placed Member sel events p r all kept = grind (arith, all-found, tested, under-found, and_parts)

-- the maps that are kept for ids are the first of their ids
first-asked : (ids : List (List ℕ)) (events : List Placed) → AllByRecursion (λ m. (map_in events (id_at m) ≡ Some m) × (is_id_among ids (id_at m) ≡ true)) (first_maps ids events)
first-asked ids events = grind (arith, first-filter ids (reverse events), reverse-reverse, all-filter, first-found (reverse events), all-by)

-- no two of them have one id
differs : (p : Placed) (ids : List (List ℕ)) (m : Placed) → is_id_among (without_id (id_at p) ids) (id_at m) ≡ true
    → bytes_eq (id_at p) (id_at m) ≡ false
differs p ids m h = grind (arith, among-without)

firsts-distinct : (ids : List (List ℕ)) (events : List Placed) → IsDistinct bytes_eq (map id_at (first_maps ids events))
unfolding IsDistinct
firsts-distinct ids [] = tt
firsts-distinct ids (p ∷ ps) =
    let others : List (List ℕ) = without_id (id_at p) ids in
    let apart = all-map _ (λ id. bytes_eq (id_at p) id ≡ false) id_at (λ m h. differs p ids m h.1) _ (first-asked others ps) in
    grind (arith, firsts-distinct others ps, firsts-distinct ids ps)

-- the map of an id that is asked for is among those that are kept
asked-step : (ids : List (List ℕ)) (q p : Placed) (qs : List Placed) (id : List ℕ) → is_id_among ids id ≡ true
    → (is_id_among (without_id (id_at q) ids) id ≡ true → map_in qs id ≡ Some p
    → map_in (first_maps (without_id (id_at q) ids) qs) id ≡ Some p)
    → (map_in qs id ≡ Some p → map_in (first_maps ids qs) id ≡ Some p) → map_in (q ∷ qs) id ≡ Some p
    → map_in (first_maps ids (q ∷ qs)) id ≡ Some p
asked-step ids q p qs id asked others rest e = grind (arith, bytes-same (id_at q) id, among-without (id_at q) id ids)

asked-found : (ids : List (List ℕ)) (events : List Placed) (id : List ℕ) (p : Placed) → is_id_among ids id ≡ true → map_in events id ≡ Some p → map_in (first_maps ids events) id ≡ Some p
asked-found ids [] id p asked e = absurd (none-some p e)
asked-found ids (q ∷ qs) id p asked e =
    asked-step ids q p qs id asked (asked-found (without_id (id_at q) ids) qs id p) (asked-found ids qs id p asked) e

-- ---- rows events

-- a rows event that is kept of such events, with its map found among these
row-placed : (Member : Placed → Type 0) (sel : Selection) (events maps : List Placed) (r : PlacedRows) → AllByRecursion Member events → Member r.event → IsKeptOf sel events r.event r
    → map_in maps (id_at r.event) ≡ Some r.map → IsPlacedRows Member sel maps r
row-placed Member sel events maps r all member kept found = search (rules, map-placed)

-- it is what is kept of itself
abbrev IsOwn : (Placed → Type 0) → Selection → List Placed → PlacedRows → Type 0
IsOwn Member sel events r = Member r.event × IsKeptOf sel events r.event r

rows-own : (Member : Placed → Type 0) (sel : Selection) (events : List Placed) → AllByRecursion Member events → AllByRecursion (IsOwn Member sel events) (filter_map (kept_rows sel events) events)
rows-own Member sel events all =
    all-given Member (IsOwn Member sel events) (kept_rows sel events) (λ p r member e. grind (arith, kept-facts sel events p r e)) events all

-- the rows event of an id
row-of : (P : PlacedRows → Type 0) (rows : List PlacedRows) (id : List ℕ) → is_id_among (ids_of rows) id ≡ true → AllByRecursion P rows → (r : PlacedRows) × (id ≡ id_at r.event) × P r
row-of P [] id e all = absurd (false≢true e)
row-of P (r ∷ rows) id e all = elim (bytes_eq id (id_at r.event)) as (λ b. bytes_eq id (id_at r.event) ≡ b → (b || is_id_among (ids_of rows) id) ≡ true → (x : PlacedRows) × (id ≡ id_at x.event) × P x) [
  | true ↦ λ same h. (r, bytes-same id (id_at r.event) same, all.0)
  | false ↦ λ differs h. row-of P rows id h all.1
] refl e

-- each rows event has its own table id
rows-asked : (rows : List PlacedRows) → AllByRecursion (λ (r : PlacedRows). is_id_among (ids_of rows) (id_at r.event) ≡ true) rows
rows-asked [] = tt
rows-asked (r ∷ rows) = grind (arith, rows-asked rows, or_left, bytes-own, all-by, or_right)

-- ---- statements

-- where one is found, there is one
found-some : (ms : List Placed) (id : List ℕ) (m : Placed) → map_in ms id ≡ Some m → (x : Placed) × (xs : List Placed) × (ms ≡ x ∷ xs)
found-some [] id m e = absurd (none-some m e)
found-some (x ∷ xs) id m e = (x, xs, refl)

statement-by : (Member : Placed → Type 0) (sel : Selection) (events : List Placed) (rows : List PlacedRows) (s : PlacedStatement) → AllByRecursion Member events
    → AllByRecursion (IsOwn Member sel events) rows → statement_if events rows ≡ Some s → IsPlacedStatement Member sel s
statement-by Member sel events [] s all own e = absurd (none-some s e)
statement-by Member sel events (r ∷ rows) s all own e = subst (IsPlacedStatement Member sel) (same_Some (record { maps = maps; rows = r ∷ rows }) s e) (record {
  maps = all-by _ (IsPlacedMap Member sel) map_is maps (first-asked ids events);
  distinct = firsts-distinct ids events;
  used = all-by _ (λ m. list_any (λ x. bytes_eq (id_at m) (id_at x.event)) (r ∷ rows) ≡ true) (λ m h. sym (any-map (λ x. id_at x.event) (bytes_eq (id_at m)) (r ∷ rows)) ∙ h.1) maps (first-asked ids events);
  rows = all-by _ (IsPlacedRows Member sel maps) row_is (r ∷ rows) (all-both _ _ (r ∷ rows) (rows-asked (r ∷ rows)) own);
  some_map = found-some maps (id_at r.event) r.map (asked-found ids events (id_at r.event) r.map (rows-asked (r ∷ rows)).0 own.0.1.found);
  some_rows = (r, rows, refl);
})
  where
    ids : List (List ℕ)
    ids = ids_of (r ∷ rows)

    maps : List Placed
    maps = first_maps ids events

    map_is : (m : Placed) → (map_in events (id_at m) ≡ Some m) × (is_id_among ids (id_at m) ≡ true) → IsPlacedMap Member sel m
    map_is m h =
        let row = row-of (IsOwn Member sel events) (r ∷ rows) (id_at m) h.1 own in
        let same : row.0.map ≡ m = same_Some row.0.map m (sym row.2.1.found ∙ ap (map_in events) (sym row.1) ∙ h.0) in
        subst (IsPlacedMap Member sel) same (map-placed Member sel events row.0.event row.0 all row.2.1)

    row_is : (x : PlacedRows) → (is_id_among ids (id_at x.event) ≡ true) × IsOwn Member sel events x → IsPlacedRows Member sel maps x
    row_is x h = row-placed Member sel events maps x all h.1.0 h.1.1 (asked-found ids events (id_at x.event) x.map h.0 h.1.1.found)

-- a statement that is kept of such events
statement-placed : (Member : Placed → Type 0) (sel : Selection) (events : List Placed) (s : PlacedStatement) → AllByRecursion Member events → kept_statement sel events ≡ Some s
    → IsPlacedStatement Member sel s
statement-placed Member sel events s all e = statement-by Member sel events (filter_map (kept_rows sel events) events) s all (rows-own Member sel events all) e

-- ---- transactions

transaction-by : (Member : Placed → Type 0) (sel : Selection) (span : Span) (ss : List PlacedStatement) (t : PlacedTransaction) → IsSpanOf Member span
    → AllByRecursion (IsPlacedStatement Member sel) ss → transaction_if span ss ≡ Some t → IsPlacedTransaction Member sel t
transaction-by Member sel span [] t of_all placed e = absurd (none-some t e)
transaction-by Member sel span (s ∷ ss) t of_all placed e =
    subst (IsPlacedTransaction Member sel) (same_Some (record { begin = span.begin; statements = s ∷ ss; end = span.end }) t e) (search rules)

-- a transaction that is kept of a span of such events
transaction-placed : (Member : Placed → Type 0) (sel : Selection) (span : Span) (t : PlacedTransaction) → IsSpanOf Member span → kept_transaction sel span ≡ Some t → IsPlacedTransaction Member sel t
transaction-placed Member sel span t of_all e = search (rules, all-given, statement-placed, statements-all, transaction-by)

-- ---- groups

-- what holds of events holds of those of their groups
pub groups-placed : (Member : Placed → Type 0) (sel : Selection) (es : List Placed) → AllByRecursion Member es → AllByRecursion (IsPlacedTransaction Member sel) (placed_groups_in sel es)
groups-placed Member sel es all = search (rules, all-given, transaction-placed, spans-all)

-- each event of the groups is one of the events
pub groups-among : (sel : Selection) (es : List Placed) → AllByRecursion (IsPlacedTransaction (Contains es) sel) (placed_groups_in sel es)
groups-among sel es = groups-placed (Contains es) sel es (recursion_from_All (Contains es) es (All-contains_itself es))
