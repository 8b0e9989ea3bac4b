-- The events of groups that can be laid out pass every check, and leave the place outside.
use Rattle.std.proofs.Common.{◌≡◌, ℕ, ◌+◌, Bool, true, false, List, [], ◌∷◌, ◌++◌, map, reverse, flat_map, bytes_eq, None, inl, inr, refl, ap, ◌∙◌, append-nil, if◌then◌else◌, arith}
use Rattle.std.specs.List.{AllByRecursion, IsDistinct, list_any}
use mathlib.Core.List.{reverse_aux}
use Rattle.std.proofs.lemmas.List.{reverse-reverse}
use Rattle.std.proofs.lemmas.List.Elements.{recursion_from_All}
use Rattle.blog_event.specs.Event.{Event, event_size, unplaced}
use Rattle.blog_event.specs.File.{Placed, end_of}
use Rattle.blog_row.specs.RowsEvent.{table_id}
use Rattle.blog_row.specs.declared.event_kinds.EventKind.TheVariants as kind
use Rattle.blog_trans.specs.declared.place.Place.TheVariants.{Outside, Inside}
use Rattle.blog_trans.specs.Selection.{all}
use Rattle.blog_trans.specs.Places.{kind_at, is_map, place, since, map_in}
use Rattle.blog_trans.specs.Acceptance.{clashes_by_id, clashes_by_layout, event_fault, Passes}
use Rattle.blog_trans.specs.Groups.{RowsEvent, Statement, Transaction}
use Rattle.blog_trans.proofs.ProgressFirsts.{and-false}
use Rattle.blog_trans.proofs.ProgressRows.{found-stays}
use Rattle.blog_trans.proofs.ProgressSteps.{reverse-latest}
use Rattle.blog_flash.specs.Texts.{rows_event, rows_events, statement_events, transaction_events, group_events}
use Rattle.blog_flash.proofs.Formed.{IsMapEvent, clash, Agree, IsRowsEvent, AreDistinct, IsStatement, IsEndEvent, IsTransaction, AreGroups}
use Rattle.blog_flash.proofs.Standing.{stood}
use Rattle.blog_flash.proofs.Spans.{by-kind, stands_at, HasMaps, maps-stand}
use Rattle.blog_flash.proofs.Content.{body-id, body-ends, body-long}
use Rattle.blog_flash.proofs.Forming.{kind-placed, rows_event-kind, reads}

-- ---- events that pass

-- what stands before, the latest first, behind these events
abbrev pub pushed : List Placed → List Placed → List Placed
pushed earlier ps = reverse_aux ps earlier

-- the events pass under the whole selection, and lead to where Q holds
abbrev pub Leads : List Placed → List Placed → (List Placed → Type 0) → Type 0
Leads earlier ps Q = Passes all earlier ps × Q (pushed earlier ps)

-- and from there others lead further
leads-stood : (pos : ℕ) (earlier : List Placed) (xs ys : List Event) (Q R : List Placed → Type 0) → Leads earlier (stood pos xs) Q
    → ((later : List Placed) → Q later → Leads later (stood (end_of pos xs) ys) R) → Leads earlier (stood pos (xs ++ ys)) R
leads-stood pos earlier [] ys Q R first others = others earlier first.1
leads-stood pos earlier (x ∷ xs) ys Q R first others =
    let more = leads-stood (pos + event_size x) (stands_at pos x ∷ earlier) xs ys Q R (first.0.1, first.1) others in
    ((first.0.0, more.0), more.1)

-- ---- what is known of the events before

-- if it is a map, it is one of groups
abbrev pub IsKnown : (Event → Type 0) → Placed → Type 0
IsKnown Known p = is_map p ≡ true → IsMapEvent Known (unplaced p.event)

-- where a transaction may begin
pub record IsOutside (Known : Event → Type 0) (earlier : List Placed) : Type 0 where
  pub outside : place earlier ≡ Outside
  pub known : AllByRecursion (IsKnown Known) earlier

-- inside a transaction, with these events of a statement before, the latest first
record IsAmid (Known : Event → Type 0) (statement earlier : List Placed) : Type 0 where
  inside : place earlier ≡ Inside
  statement_is : since earlier ≡ statement
  known : AllByRecursion (IsKnown Known) earlier

-- ---- events of a statement

-- its id is none of theirs
abbrev IsNew : List Placed → Event → Type 0
IsNew statement m = AllByRecursion (λ x. bytes_eq (table_id x.event.body) (table_id m.body) ≡ false) statement

-- a map with a new id doesn't clash with them by it
no-clash-by-id : (p : Placed) (statement : List Placed) → IsNew statement p.event → list_any (clashes_by_id p) statement ≡ false
no-clash-by-id p [] new = refl
no-clash-by-id p (o ∷ statement) new = rw (new.0, and-false (is_map o)) (no-clash-by-id p statement new.1)

-- ids apart from one more map
new-on : (statement : List Placed) (p : Placed) (ms : List Event) → AllByRecursion (λ id. bytes_eq (table_id p.event.body) id ≡ false) (map (λ m. table_id m.body) ms)
    → AllByRecursion (IsNew statement) ms → AllByRecursion (IsNew (p ∷ statement)) ms
new-on statement p [] apart new = tt
new-on statement p (m ∷ ms) apart new = ((apart.0, new.0), new-on statement p ms apart.1 new.1)

-- maps are still found behind one more event
has-on : (ms : List Event) (statement : List Placed) (p : Placed) → HasMaps (reverse statement) ms → HasMaps (reverse (p ∷ statement)) ms
has-on ms statement p has id m found =
    let (q, is, same) = has id m found in
    (q, ap (λ ps. map_in ps id) (reverse-latest p statement) ∙ found-stays (reverse statement) (p ∷ []) id q is, same)

-- ---- `BEGIN`, and the end of a transaction

module _ (Known : Event → Type 0) (agree : Agree Known) where
  -- `BEGIN` passes where a transaction may begin, and leads inside, with nothing of a statement before
  begin-leads : (earlier : List Placed) (p : Placed) → kind_at p ≡ kind.Begin → IsOutside Known earlier → (event_fault all earlier p ≡ None) × IsAmid Known [] (p ∷ earlier)
  begin-leads earlier p is h = (rw (is, h.outside) refl, record { inside = rw is refl; statement_is = rw is refl; known = (λ map. cc, h.known) })

  -- the end passes where no statement is open, and leads outside
  end-leads : (earlier : List Placed) (pos : ℕ) (e : Event) → IsEndEvent e → IsAmid Known [] earlier → Leads earlier (stood pos (e ∷ [])) (IsOutside Known)
  end-leads earlier pos e (inl commit) h =
      let is = by-kind (λ k. k) pos e kind.Commit commit in
      ((rw (is, h.inside, h.statement_is) refl, tt), record { outside = rw is refl; known = (λ map. cc, h.known) })
  end-leads earlier pos e (inr xid) h =
      let is = by-kind (λ k. k) pos e kind.Xid xid.0 in
      ((rw (is, xid.1, h.inside, h.statement_is) refl, tt), record { outside = rw is refl; known = (λ map. cc, h.known) })

  -- ---- maps

  -- a map of groups doesn't clash with any before by its layout
  no-clash-by-layout : (p : Placed) → IsMapEvent Known (unplaced p.event) → (earlier : List Placed) → AllByRecursion (IsKnown Known) earlier → list_any (clashes_by_layout p) earlier ≡ false
  no-clash-by-layout p h [] known = refl
  no-clash-by-layout p h (o ∷ earlier) known =
      let own : is_map o ≡ true → clash (unplaced o.event) (unplaced p.event) ≡ false = λ map. agree (unplaced o.event) (unplaced p.event) (known.0 map) h in
      let others = no-clash-by-layout p h earlier known.1 in grind arith

  -- a map passes inside, if its id is new in the statement
  map-passes : (statement earlier : List Placed) (p : Placed) → kind_at p ≡ kind.TableMap → IsMapEvent Known (unplaced p.event) → IsNew statement p.event → IsAmid Known statement earlier
      → event_fault all earlier p ≡ None
  map-passes statement earlier p is m new h =
      rw (is, h.inside, h.statement_is, no-clash-by-id p statement new, no-clash-by-layout p m earlier h.known, m.names.1, m.layout.1) refl

  -- the maps of a statement pass
  maps-lead : (pos : ℕ) (ms : List Event) (statement earlier : List Placed) → AllByRecursion (IsMapEvent Known) ms → AreDistinct ms → AllByRecursion (IsNew statement) ms → IsAmid Known statement earlier
      → Leads earlier (stood pos ms) (IsAmid Known (pushed statement (stood pos ms)))
  unfolding IsDistinct
  maps-lead pos [] statement earlier formed distinct new h = (tt, h)
  maps-lead pos (m ∷ ms) statement earlier formed distinct new h =
      let p = stands_at pos m in
      let is = by-kind (λ k. k) pos m kind.TableMap formed.0.kind in
      let own : IsMapEvent Known (unplaced p.event) = rw formed.0.unplaced formed.0 in
      let amid : IsAmid Known (p ∷ statement) (p ∷ earlier) = record { inside = rw is h.inside; statement_is = rw is (ap (λ ps. p ∷ ps) h.statement_is); known = (λ map. own, h.known) } in
      let others = maps-lead (pos + event_size m) ms (p ∷ statement) (p ∷ earlier) formed.1 distinct.1 (new-on statement p ms distinct.0 new.1) amid in
      ((map-passes statement earlier p is own new.0 h, others.0), others.1)

  -- ---- rows events

  -- a rows event passes, if the maps stand in the statement, and ends that if it is the last
  rows-leads : (ms : List Event) (pos : ℕ) (statement earlier : List Placed) (last : Bool) (r : RowsEvent) → IsRowsEvent ms r → HasMaps (reverse statement) ms → IsAmid Known statement earlier
      → Leads earlier (stood pos (rows_event last r ∷ [])) (IsAmid Known (if last then [] else stands_at pos (rows_event last r) ∷ statement))
  rows-leads ms pos statement earlier last r formed has h =
      let is = by-kind (λ k. k) pos (rows_event last r) (kind.Rows r.content.kind) (rows_event-kind last r) in
      let (q, found, same) = has r.content.id formed.found.0 formed.found.1 in
      let six = formed.content.2.id_len in (
        (rw (is, h.inside, h.statement_is, body-long last r.content six, body-id last r.content six, found, same ∙ formed.found.2, formed.names.1, reads ms last r formed) refl, tt),
        record { inside = rw is h.inside; statement_is = rw (is, body-ends last r.content six formed.flags formed.even, h.statement_is) (grind arith); known = (λ map. cc, h.known) },
      )

  -- the rows events of a statement pass, and end it
  rows-lead : (ms : List Event) (pos : ℕ) (r : RowsEvent) (rows : List RowsEvent) (statement earlier : List Placed) → AllByRecursion (IsRowsEvent ms) (r ∷ rows) → HasMaps (reverse statement) ms
      → IsAmid Known statement earlier → Leads earlier (stood pos (rows_events (r ∷ rows))) (IsAmid Known [])
  rows-lead ms pos r [] statement earlier formed has h = rows-leads ms pos statement earlier true r formed.0 has h
  rows-lead ms pos r (s ∷ rows) statement earlier formed has h =
      let p = stands_at pos (rows_event false r) in
      let first = rows-leads ms pos statement earlier false r formed.0 has h in
      let more = rows-lead ms (pos + event_size (rows_event false r)) s rows (p ∷ statement) (p ∷ earlier) formed.1 (has-on ms statement p has) first.1 in
      ((first.0.0, more.0), more.1)

  -- ---- statements, transactions, groups

  -- the events of a statement pass, and leave no statement open
  statement-passes : (earlier : List Placed) (pos : ℕ) (s : Statement) → IsAmid Known [] earlier → IsStatement Known s → Leads earlier (stood pos (statement_events s)) (IsAmid Known [])
  statement-passes earlier pos s h formed =
      let statement : List Placed = pushed [] (stood pos s.maps) in
      let maps = maps-lead pos s.maps [] earlier formed.maps_formed formed.distinct (recursion_from_All (IsNew []) s.maps (λ k within m. tt)) h in
      let has : HasMaps (reverse statement) s.maps = rw (reverse-reverse, ← append-nil (stood pos s.maps)) (maps-stand pos s.maps []) in
      let (r, rows, is) = formed.some in
      leads-stood pos earlier s.maps (rows_events s.rows) (IsAmid Known statement) (IsAmid Known []) maps
      (λ later amid. rw is (rows-lead s.maps (end_of pos s.maps) r rows statement later (rw is at formed.rows_formed) has amid))

  -- so do those of statements
  statements-pass : (earlier : List Placed) (pos : ℕ) (ss : List Statement) → IsAmid Known [] earlier → AllByRecursion (IsStatement Known) ss
      → Leads earlier (stood pos (flat_map statement_events ss)) (IsAmid Known [])
  statements-pass earlier pos [] h formed = (tt, h)
  statements-pass earlier pos (s ∷ ss) h formed =
      leads-stood pos earlier (statement_events s) (flat_map statement_events ss) (IsAmid Known []) (IsAmid Known []) (statement-passes earlier pos s h formed.0)
      (λ later amid. statements-pass later (end_of pos (statement_events s)) ss amid formed.1)

  -- the events of a transaction pass, and leave the place outside
  transaction-passes : (earlier : List Placed) (pos : ℕ) (t : Transaction) → IsOutside Known earlier → IsTransaction Known t → Leads earlier (stood pos (transaction_events t)) (IsOutside Known)
  transaction-passes earlier pos t h formed =
      let p = stands_at pos t.begin in
      let within = flat_map statement_events t.statements in
      let from = pos + event_size t.begin in
      let begin = begin-leads earlier p (kind-placed t.begin from ∙ formed.begin_kind) h in
      let others = leads-stood from (p ∷ earlier) within (t.end ∷ []) (IsAmid Known []) (IsOutside Known)
      (statements-pass (p ∷ earlier) from t.statements begin.1 formed.statements_formed) (λ later. end-leads later (end_of from within) t.end formed.end_is) in
      ((begin.0, others.0), others.1)

  -- the events of groups pass, and leave the place outside
  pub groups-pass : (earlier : List Placed) (pos : ℕ) (ts : List Transaction) → IsOutside Known earlier → AreGroups Known ts → Leads earlier (stood pos (group_events ts)) (IsOutside Known)
  groups-pass earlier pos [] h formed = (tt, h)
  groups-pass earlier pos (t ∷ ts) h formed =
      leads-stood pos earlier (transaction_events t) (group_events ts) (IsOutside Known) (IsOutside Known) (transaction-passes earlier pos t h formed.0)
      (λ later outside. groups-pass later (end_of pos (transaction_events t)) ts outside formed.1)
