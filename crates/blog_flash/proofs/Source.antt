-- The groups of an accepted log are well-formed.
use Rattle.std.proofs.Common.{◌≡◌, ℕ, Bool, true, ◌&&◌, List, [], ◌∷◌, map, find, Some, None, option_map, bytes_eq, inl, inr, refl, sym, subst, ap, ◌∙◌, arith, take_at, drop_at}
use Rattle.std.specs.List.{AllByRecursion, Contains, IsDistinct, list_any}
use Rattle.std.proofs.lemmas.Bool.{false≢true}
use Rattle.std.proofs.lemmas.Simd.{map-map}
use Rattle.byteorder.specs.Endian.{little_number}
use Rattle.byteorder.specs.Numbers.{little_from-append}
use Rattle.blog_event.specs.declared.fault.Fault.TheVariants.{CutEvent}
use Rattle.blog_event.specs.Fault.{needs, fault_at}
use Rattle.blog_event.specs.Event.{Event, IsEvent}
use Rattle.blog_event.specs.Format.{format_fault}
use Rattle.blog_event.specs.File.{Placed, placed_from, read, AreBytes}
use Rattle.blog_row.specs.declared.kind.RowsKind.{RowsKind}
use Rattle.blog_row.specs.Column.{Layout}
use Rattle.blog_row.specs.RowsEvent.{RowsBody, IsRowsBody, table_id, flags_of}
use Rattle.blog_row.proofs.ReversedRows.{content-is}
use Rattle.blog_row.specs.declared.event_kinds.EventKind.{EventKind}
use Rattle.blog_row.specs.declared.event_kinds.EventKind.TheVariants as kind
use Rattle.blog_row.specs.Kinds.{is_end_kind, is_map_kind}
use Rattle.blog_trans.specs.Selection.{Selection}
use Rattle.blog_trans.specs.Places.{kind_at, is_map_of, map_in}
use Rattle.blog_trans.specs.Acceptance.{range, has_first, first_format_fault, IsAccepted}
use Rattle.blog_trans.specs.Groups.{PlacedRows, PlacedStatement, PlacedTransaction, placed_groups_in, placed_groups, RowsEvent, rows_value, event_value, statement_value, transaction_value, groups}
use Rattle.blog_trans.specs.PlacedFacts.{IsPlacedMap, IsPlacedRows, IsPlacedStatement, IsPlacedTransaction}
use Rattle.blog_trans.proofs.PlacedFacts.{groups-placed}
use Rattle.blog_trans.proofs.RowsFields.{fields-found}
use Rattle.blog_trans.proofs.PlacedParts.{all-map}
use Rattle.blog_trans.proofs.ProgressAccepted.{no-fault-at, accepted-lines}
use Rattle.blog_trans.proofs.ProgressFirsts.{id_at}
use Rattle.blog_trans.proofs.ProgressSteps.{begin-kind}
use Rattle.blog_flash.proofs.Formed.{Fits, map_among, is_map_of_id, IsMapEvent, IsRowsEvent, IsUsed, IsStatement, IsEndEvent, IsTransaction, AreGroups}
use Rattle.blog_flash.proofs.Forming.{kind-placed}
use Rattle.blog_flash.proofs.Agreeing.{IsChosen, Chosen, map-kind}
use Rattle.blog_flash.proofs.Sound.{IsSound, range-sound}

-- ---- events

-- the header of an event fits, without its place too
value-fits : (p : Placed) → IsEvent p.event → Fits (event_value p)
value-fits p is = record { timestamp = is.timestamp; kind = is.kind; server_id = is.server_id; flags = is.flags }

-- ---- rows events

-- the table id of a kept rows event is that of its fields
own-id : (Member : Placed → Type 0) (sel : Selection) (maps : List Placed) (r : PlacedRows) → IsPlacedRows Member sel maps r → id_at r.event ≡ r.body.id
own-id Member sel maps r h = let fields = fields-found Member sel maps r h in ap table_id fields.text ∙ take_at r.body.id _ 6 fields.id_len

-- an id is among those of rows events as it is among those of their values
ids-alike : (Member : Placed → Type 0) (sel : Selection) (maps : List Placed) (rows : List PlacedRows) (id : List ℕ) → AllByRecursion (IsPlacedRows Member sel maps) rows
    → list_any (λ (r : RowsEvent). bytes_eq id r.content.id) (map rows_value rows) ≡ list_any (λ (r : PlacedRows). bytes_eq id (id_at r.event)) rows
ids-alike Member sel maps [] id all = refl
ids-alike Member sel maps (r ∷ rows) id all = rw (own-id Member sel maps r all.0, ids-alike Member sel maps rows id all.1) refl

-- the flags of a body are those of its fields
own-flags : (k : RowsKind) (c : Layout) (body : List ℕ) (b : RowsBody) → IsRowsBody k c body b → flags_of body ≡ little_number 2 b.flags
own-flags k c body b h = ap flags_of h.text ∙ ap (little_number 2) (drop_at b.id _ 6 h.id_len) ∙ little_from-append 2 b.flags _ (omega (arith, h.flags_len))

-- what is found first of the values of elements is the value of what is found of these
find-value : {A B : Type 0} (f : A → B) (p : B → Bool) (q : A → Bool) → ((x : A) → p (f x) ≡ q x) → (xs : List A) → find p (map f xs) ≡ option_map f (find q xs)
find-value f p q same [] = refl
find-value f p q same (x ∷ xs) = let others = find-value f p q same xs in rw (same x) (grind arith)

-- the map of an id among the values is the value of the map
value-among : (ps : List Placed) (id : List ℕ) → map_among (map event_value ps) id ≡ option_map event_value (map_in ps id)
value-among ps id = find-value event_value (is_map_of_id id) (is_map_of id) (λ p. ap (λ (k : EventKind). is_map_kind k && bytes_eq (id_at p) id) (kind-placed p.event 0)) ps

-- a rows event is well-formed among its maps
row-formed : (Member : Placed → Type 0) (sel : Selection) (maps : List Placed) (r : PlacedRows) → IsPlacedRows (IsSound Member) sel maps r → IsRowsEvent (map event_value maps) (rows_value r)
row-formed Member sel maps r h =
    let c : Layout = h.map.layout in
    let fields = fields-found (IsSound Member) sel maps r h in
    let among : map_in maps r.body.id ≡ Some r.map = ap (map_in maps) (sym (own-id (IsSound Member) sel maps r h)) ∙ h.found in
    record {
      found = (event_value r.map, value-among maps r.body.id ∙ ap (option_map event_value) among, refl);
      names = (h.map.names, h.map.names_are);
      flags = omega (arith, h.member.mark, own-flags r.kind c r.event.event.body r.body fields);
      even = omega arith;
      content = (c, h.map.layout_is, content-is r.kind c r.event.event.body r.body fields);
      timestamp_fits = h.member.event.timestamp;
      server_id_fits = h.member.event.server_id;
      header_flags_fit = h.member.event.flags;
    }

-- ---- maps

-- a map is well-formed
map-formed : (all : List Placed) (sel : Selection) (p : Placed) → IsPlacedMap (IsSound (Contains all)) sel p → IsMapEvent (IsChosen all sel) (event_value p)
map-formed all sel p h = record {
  kind = kind-placed p.event 0 ∙ map-kind (kind_at p) h.is_one;
  names = (h.names, h.names_are);
  layout = (h.layout, h.layout_is);
  known = record { at = p; among = h.member.member; a_map = h.is_one; selected = h.selected; value = refl };
  unplaced = refl;
  fits = value-fits p h.member.event;
}

-- ---- statements and transactions

-- a statement is well-formed
statement-formed : (all : List Placed) (sel : Selection) (s : PlacedStatement) → IsPlacedStatement (IsSound (Contains all)) sel s → IsStatement (IsChosen all sel) (statement_value s)
statement-formed all sel s h = record {
  maps_formed = all-map _ (IsMapEvent (IsChosen all sel)) event_value (map-formed all sel) s.maps h.maps;
  distinct = subst (IsDistinct bytes_eq) (sym (map-map (λ (m : Event). table_id m.body) event_value s.maps)) h.distinct;
  used = all-map _ (IsUsed (map rows_value s.rows)) event_value (λ m used. ids-alike (IsSound (Contains all)) sel s.maps s.rows (id_at m) h.rows ∙ used) s.maps h.used;
  rows_formed = all-map _ (IsRowsEvent (map event_value s.maps)) rows_value (row-formed (Contains all) sel s.maps) s.rows h.rows;
  some = (rows_value h.some_rows.0, map rows_value h.some_rows.1, ap (map rows_value) h.some_rows.2);
}

-- a `COMMIT`, or an Xid with its eight bytes
end-formed : (Member : Placed → Type 0) (p : Placed) → IsSound Member p → (k : EventKind) → kind_at p ≡ k → is_end_kind k ≡ true → IsEndEvent (event_value p)
end-formed Member p sound kind.Commit is e = inl (kind-placed p.event 0 ∙ is)
end-formed Member p sound kind.Xid is e = inr (kind-placed p.event 0 ∙ is, sound.xid is)
end-formed Member p sound _ is e = absurd (false≢true e)

-- a transaction is well-formed
transaction-formed : (all : List Placed) (sel : Selection) (t : PlacedTransaction) → IsPlacedTransaction (IsSound (Contains all)) sel t → IsTransaction (IsChosen all sel) (transaction_value t)
transaction-formed all sel t h = record {
  begin_kind = kind-placed t.begin.event 0 ∙ begin-kind (kind_at t.begin) h.begin_is;
  begin_unplaced = refl;
  begin_fits = value-fits t.begin h.begin_member.event;
  end_is = end-formed (Contains all) t.end h.end_member (kind_at t.end) refl h.end_is;
  end_unplaced = refl;
  end_fits = value-fits t.end h.end_member.event;
  statements_formed = all-map _ (IsStatement (IsChosen all sel)) statement_value (statement-formed all sel) t.statements h.statements;
  some = (statement_value h.some_statement.0, map statement_value h.some_statement.1, ap (map statement_value) h.some_statement.2);
}

-- ---- groups

-- the groups of an accepted log are well-formed
pub source-groups : (bytes : List ℕ) (sel : Selection) → AreBytes bytes → IsAccepted bytes sel → AreGroups (Chosen bytes sel) (groups bytes sel)
unfolding groups placed_groups
source-groups bytes sel are accepted =
    let events : List Placed = range sel (placed_from 4 (read bytes sel.stop)) in
    all-map _ (IsTransaction (IsChosen events sel)) transaction_value (transaction-formed events sel) (placed_groups_in sel events)
    (groups-placed (IsSound (Contains events)) sel events (range-sound bytes sel are accepted))

-- ---- its first event

-- events of which the first checks hold begin with a format description
first-format : (es : List Event) → fault_at 4 (needs (has_first es) CutEvent) ≡ None → fault_at 4 (first_format_fault es) ≡ None
    → (format : Event) × (rest : List Event) × (es ≡ format ∷ rest) × (format_fault format ≡ None)
first-format [] first fault = absurd (cc)
first-format (e ∷ es) first fault = (e, es, refl, no-fault-at 4 (format_fault e) fault)

-- so does an accepted log
pub source-format : (bytes : List ℕ) (sel : Selection) → IsAccepted bytes sel → (format : Event) × (rest : List Event) × (read bytes sel.stop ≡ format ∷ rest) × (format_fault format ≡ None)
source-format bytes sel accepted = let parts = accepted-lines bytes sel accepted in first-format (read bytes sel.stop) parts.1.1.0 parts.1.1.1.0
