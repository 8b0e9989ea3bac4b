-- Grouping the events of groups gives the groups back, wherever the events stand.
use Rattle.std.proofs.Common.{◌≡◌, ℕ, ◌+◌, List, [], ◌∷◌, ◌++◌, map, Bool, true, false, ◌&&◌, not, bytes_eq, Some, is_some, refl, ap, ap₂, ◌∙◌}
use Rattle.std.specs.List.{AllByRecursion, IsDistinct, flat_map, filter_map}
use Rattle.blog_event.specs.Event.{Event, event_size}
use Rattle.blog_event.specs.File.{Placed, end_of}
use Rattle.blog_row.specs.RowsEvent.{table_id}
use Rattle.blog_row.specs.RowsWriting.{written_fields}
use Rattle.blog_row.specs.declared.event_kinds.EventKind.TheVariants as kind
use Rattle.blog_row.specs.Kinds.{is_map_kind, rows_of_kind}
use Rattle.blog_trans.specs.Selection.{all}
use Rattle.blog_trans.specs.Places.{map_in}
use Rattle.blog_trans.specs.Groups.{PlacedRows, PlacedStatement, Span, statements_of, kept_rows, first_maps, statement_if, kept_statement, transaction_if, kept_transaction, placed_groups_in}
use Rattle.blog_trans.specs.Groups.{RowsEvent, Statement, Transaction, rows_value, event_value, statement_value, transaction_value}
use Rattle.blog_trans.proofs.PlacedParts.{all-by, any-map}
use Rattle.blog_trans.proofs.ProgressFirsts.{is_id_among, without_id, among-without}
use Rattle.blog_trans.proofs.ProgressRows.{no-rows-kept}
use Rattle.blog_flash.specs.Texts.{rows_event, rows_events, statement_events, transaction_events, group_events}
use Rattle.blog_flash.proofs.Formed.{IsMapEvent, IsRowsEvent, AreDistinct, IsUsed, IsStatement, IsTransaction, AreGroups}
use Rattle.blog_flash.proofs.Standing.{stood, stood-append}
use Rattle.blog_flash.proofs.Content.{body-id, content-again}
use Rattle.blog_flash.proofs.Forming.{rows_event-kind, reads}
use Rattle.blog_flash.proofs.Spans.{stands_at, by-kind, HasValue, HasMaps, maps-stand, span_at, span-first, cut-first}

-- ---- the rows events of a statement are kept

-- a rows event where it stands, with its map and what its body says
abbrev kept_at : ℕ → Bool → RowsEvent → Placed → PlacedRows
kept_at pos last r map = record { event = stands_at pos (rows_event last r); map = map; kind = r.content.kind; body = written_fields last r.content }

rows-kept : (maps : List Event) (events : List Placed) (pos : ℕ) (last : Bool) (r : RowsEvent) (map : Placed) → IsRowsEvent maps r → map_in events r.content.id ≡ Some map
    → map.event.body ≡ r.map → kept_rows all events (stands_at pos (rows_event last r)) ≡ Some (kept_at pos last r map)
rows-kept maps events pos last r map h found same =
    rw (body-id last r.content h.content.2.id_len, found, by-kind (λ k. k) pos (rows_event last r) (kind.Rows r.content.kind) (rows_event-kind last r), same, h.names.1, reads maps last r h) refl

rows-value : (maps : List Event) (pos : ℕ) (last : Bool) (r : RowsEvent) (map : Placed) → IsRowsEvent maps r → map.event.body ≡ r.map → rows_value (kept_at pos last r map) ≡ r
rows-value maps pos last r map h same = ap₂ (λ body c. record r { map = body; content = c }) same (content-again last r.content h.flags h.even)

-- what is kept gives the rows events back, and their table ids
record IsKept (rows : List RowsEvent) (kept : List PlacedRows) : Type 0 where
  values : map rows_value kept ≡ rows
  ids : map (λ x. table_id x.event.event.body) kept ≡ map (λ r. r.content.id) rows

kept-front : (maps : List Event) (events ps : List Placed) (pos : ℕ) (last : Bool) (r : RowsEvent) (rows : List RowsEvent) → IsRowsEvent maps r → HasMaps events maps
    → IsKept rows (filter_map (kept_rows all events) ps) → IsKept (r ∷ rows) (filter_map (kept_rows all events) (stands_at pos (rows_event last r) ∷ ps))
kept-front maps events ps pos last r rows h found others =
    let (at, is, own) = found r.content.id h.found.0 h.found.1 in
    let same : at.event.body ≡ r.map = own ∙ h.found.2 in
    let kept = rows-kept maps events pos last r at h is same in
    record { values = rw kept (ap₂ ◌∷◌ (rows-value maps pos last r at h same) others.values); ids = rw kept (ap₂ ◌∷◌ (body-id last r.content h.content.2.id_len) others.ids) }

all-kept : (maps : List Event) (events : List Placed) (pos : ℕ) (rows : List RowsEvent) → AllByRecursion (IsRowsEvent maps) rows → HasMaps events maps
    → IsKept rows (filter_map (kept_rows all events) (stood pos (rows_events rows)))
all-kept maps events pos [] h found = record { values = refl; ids = refl }
all-kept maps events pos (r ∷ []) h found = kept-front maps events [] pos true r [] h.0 found (record { values = refl; ids = refl })
all-kept maps events pos (r ∷ s ∷ rows) h found =
    let behind = pos + event_size (rows_event false r) in
    kept-front maps events (stood behind (rows_events (s ∷ rows))) pos false r (s ∷ rows) h.0 found (all-kept maps events behind (s ∷ rows) h.1 found)

-- ---- the first maps of the table ids are the maps

-- one of the ids is the map's
abbrev HasIdOf : List (List ℕ) → Event → Type 0
HasIdOf ids m = is_id_among ids (table_id m.body) ≡ true

-- another one of the ids stays among them
ids-left : (id : List ℕ) (ids : List (List ℕ)) (maps : List Event) → AllByRecursion (HasIdOf ids) maps → AllByRecursion (λ other. bytes_eq id other ≡ false) (map (λ m. table_id m.body) maps)
    → AllByRecursion (HasIdOf (without_id id ids)) maps
ids-left id ids [] has differ = tt
ids-left id ids (m ∷ maps) has differ =
    (among-without id (table_id m.body) ids ∙ ap (λ t. not t && is_id_among ids (table_id m.body)) differ.0 ∙ has.0, ids-left id ids maps has.1 differ.1)

no-maps : (ids : List (List ℕ)) (pos : ℕ) (rows : List RowsEvent) → first_maps ids (stood pos (rows_events rows)) ≡ []
no-maps ids pos [] = refl
no-maps ids pos (r ∷ []) = rw (by-kind is_map_kind pos (rows_event true r) (kind.Rows r.content.kind) (rows_event-kind true r)) refl
no-maps ids pos (r ∷ s ∷ rows) =
    rw (by-kind is_map_kind pos (rows_event false r) (kind.Rows r.content.kind) (rows_event-kind false r)) (no-maps ids (pos + event_size (rows_event false r)) (s ∷ rows))

-- what is kept of a statement and of a transaction, where something is
kept-value : (events : List Placed) (kept : List PlacedRows) (s : Statement) (r : RowsEvent) (rows : List RowsEvent) → s.rows ≡ r ∷ rows → map rows_value kept ≡ s.rows
    → map event_value (first_maps (map (λ x. table_id x.event.event.body) kept) events) ≡ s.maps → HasValue (statement_if events kept) statement_value s
kept-value events [] s r rows some values maps = cc
kept-value events (x ∷ kept) s r rows some values maps = (_, refl, ap₂ (λ ms rs. record { maps = ms; rows = rs }) maps values)

kept-span : (span : Span) (kept : List PlacedStatement) (t : Transaction) (s : Statement) (ss : List Statement) → t.statements ≡ s ∷ ss → map statement_value kept ≡ t.statements
    → event_value span.begin ≡ t.begin → event_value span.end ≡ t.end → HasValue (transaction_if span kept) transaction_value t
kept-span span [] t s ss some values begins ends = cc
kept-span span (x ∷ kept) t s ss some values begins ends = (_, refl, λ i. record { begin = begins i; statements = values i; end = ends i })

module _ (Known : Event → Type 0) where
  -- the maps of a statement are not kept
  maps-not-kept : (events : List Placed) (pos : ℕ) (maps : List Event) (ps : List Placed) → AllByRecursion (IsMapEvent Known) maps
      → filter_map (kept_rows all events) (stood pos maps ++ ps) ≡ filter_map (kept_rows all events) ps
  maps-not-kept events pos [] ps h = refl
  maps-not-kept events pos (m ∷ maps) ps h =
      rw (no-rows-kept all events (stands_at pos m) (by-kind (λ k. is_some (rows_of_kind k)) pos m kind.TableMap h.0.kind)) (maps-not-kept events (pos + event_size m) maps ps h.1)

  -- the first maps of the table ids are the maps
  maps-first : (ids : List (List ℕ)) (pos : ℕ) (maps : List Event) (ps : List Placed) → AllByRecursion (IsMapEvent Known) maps → AreDistinct maps → AllByRecursion (HasIdOf ids) maps
      → ((others : List (List ℕ)) → first_maps others ps ≡ []) → first_maps ids (stood pos maps ++ ps) ≡ stood pos maps
  unfolding IsDistinct
  maps-first ids pos [] ps h distinct has none = none ids
  maps-first ids pos (m ∷ maps) ps h distinct has none =
      let others = maps-first (without_id (table_id m.body) ids) (pos + event_size m) maps ps h.1 distinct.1 (ids-left (table_id m.body) ids maps has.1 distinct.0) none in
      rw (by-kind is_map_kind pos m kind.TableMap h.0.kind) (rw has.0 (ap (λ l. stands_at pos m ∷ l) others))

  maps-value : (pos : ℕ) (maps : List Event) → AllByRecursion (IsMapEvent Known) maps → map event_value (stood pos maps) ≡ maps
  maps-value pos [] h = refl
  maps-value pos (m ∷ maps) h = ap₂ ◌∷◌ h.0.unplaced (maps-value (pos + event_size m) maps h.1)

  -- ---- statements

  -- what is kept of a statement's events is the statement
  statement-again : (pos : ℕ) (s : Statement) → IsStatement Known s → HasValue (kept_statement all (stood pos (statement_events s))) statement_value s
  statement-again pos s h =
      let behind : ℕ = end_of pos s.maps in
      let rows : List Placed = stood behind (rows_events s.rows) in
      let events : List Placed = stood pos s.maps ++ rows in
      let ids : List (List ℕ) = map (λ r. r.content.id) s.rows in
      let kept = all-kept s.maps events behind s.rows h.rows_formed (maps-stand pos s.maps rows) in
      let has = all-by (IsUsed s.rows) (HasIdOf ids) (λ m used. any-map (λ r. r.content.id) (bytes_eq (table_id m.body)) s.rows ∙ used) s.maps h.used in
      let first = maps-first ids pos s.maps rows h.maps_formed h.distinct has (λ others. no-maps others behind s.rows) in
      rw (stood-append pos s.maps (rows_events s.rows), maps-not-kept events pos s.maps rows h.maps_formed)
      (kept-value events (filter_map (kept_rows all events) rows) s h.some.0 h.some.1 h.some.2 kept.values (rw (kept.ids, first) (maps-value pos s.maps h.maps_formed)))

  -- and of the events of statements, cut as they are, the statements
  statements-again : (pos : ℕ) (ss : List Statement) → AllByRecursion (IsStatement Known) ss
      → map statement_value (filter_map (kept_statement all) (statements_of (stood pos (flat_map statement_events ss)))) ≡ ss
  statements-again pos [] h = refl
  statements-again pos (s ∷ ss) h =
      let behind = end_of pos (statement_events s) in
      let own = statement-again pos s h.0 in
      rw (stood-append pos (statement_events s) (flat_map statement_events ss), cut-first Known pos s (stood behind (flat_map statement_events ss)) h.0, own.1)
      (ap₂ ◌∷◌ own.2 (statements-again behind ss h.1))

  -- ---- transactions

  -- what is kept of a transaction's span is the transaction
  transaction-again : (pos : ℕ) (t : Transaction) → IsTransaction Known t → HasValue (kept_transaction all (span_at pos t)) transaction_value t
  transaction-again pos t h =
      let span = span_at pos t in
      kept-span span (filter_map (kept_statement all) (statements_of span.inside)) t h.some.0 h.some.1 h.some.2
      (statements-again (pos + event_size t.begin) t.statements h.statements_formed) h.begin_unplaced h.end_unplaced

  -- the groups of the events of groups are the groups
  pub groups-again : (pos : ℕ) (ts : List Transaction) → AreGroups Known ts → map transaction_value (placed_groups_in all (stood pos (group_events ts))) ≡ ts
  groups-again pos [] h = refl
  groups-again pos (t ∷ ts) h =
      let behind = end_of pos (transaction_events t) in
      let own = transaction-again pos t h.0 in
      ap (λ ps. map transaction_value (placed_groups_in all ps)) (stood-append pos (transaction_events t) (group_events ts))
      ∙ (ap (λ l. map transaction_value (filter_map (kept_transaction all) l)) (span-first Known pos t (stood behind (group_events ts)) h.0) ∙ rw own.1 (ap₂ ◌∷◌ own.2 (groups-again behind ts h.1)))
