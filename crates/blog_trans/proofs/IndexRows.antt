-- What an index shows of a rows event by its entry.
use Rattle.std.proofs.Common.{arith, ◌≡◌, ℕ, drop, get_or, Bool, List, [], ◌∷◌, Option, Some, None, Result, Ok, IfSome, refl, sym, ap, ◌∙◌}
use Rattle.std.specs.Prelude.{◌==◌, if◌then◌else◌}
use Rattle.std.specs.Option.{option_map_or}
use Rattle.std.proofs.lemmas.Option.{same_Some}
use Rattle.blog_event.specs.declared.event.Event as told
use Rattle.blog_event.specs.Event.{Event, event_at, event_of}
use Rattle.blog_event.specs.File.{Placed}
use Rattle.blog_row.specs.declared.fault.RowFault.{RowFault}
use Rattle.blog_row.specs.declared.kind.RowsKind.{RowsKind}
use Rattle.blog_row.specs.Column.{Layout, is_one_of}
use Rattle.blog_row.specs.RowsKind.{rows_kind_of}
use Rattle.blog_row.specs.TableMap.{layout_of}
use Rattle.blog_row.specs.RowsEvent.{RowsBody, rows_of}
use Rattle.blog_row.specs.declared.event_kinds.EventKind.{EventKind}
use Rattle.blog_row.specs.declared.event_kinds.EventKind.TheVariants as kind
use Rattle.blog_row.specs.Kinds.{kind_of, other_kind, query_kind, query_text, rows_of_kind}
use Rattle.blog_trans.specs.declared.lists.Entry.{Entry}
use Rattle.blog_trans.specs.declared.groups.Index.{Index}
use Rattle.blog_trans.specs.Places.{kind_at}
use Rattle.blog_trans.specs.Acceptance.{rows_by_map}
use Rattle.blog_trans.specs.Groups.{PlacedRows}
use Rattle.blog_trans.specs.code.Entries.{rows_entry}
use Rattle.blog_trans.specs.code.IndexView.{IsRowsOfEntry, index_bytes, placed}
use Rattle.blog_trans.proofs.EntriesFound.{own_item}
use Rattle.blog_trans.proofs.IndexFacts.{placed_is}

-- where it leads to
pub own_entry : {A : Type 0} (index : Index A) (n : ℕ) (e : Entry) (r : PlacedRows) → IsRowsOfEntry index n r → e ≡ get_or index.entries.items n e → e ≡ rows_entry r
own_entry index n e r is item = own_item index.entries.items n e (rows_entry r) is.here item

pub own_event : {A : Type 0} (index : Index A) (n : ℕ) (e : Entry) (event : told.Event) (r : PlacedRows) → IsRowsOfEntry index n r → e ≡ get_or index.entries.items n e
    → event_at (drop e.at (index_bytes index)) ≡ Some (event_of event) → event.pos ≡ e.at → placed event ≡ r.event
own_event index n e event r is item read pos = placed_is (index_bytes index) r.event e.at event (ap (λ (x : Entry). x.at) (own_entry index n e r is item)) is.known.member read pos

pub own_map : {A : Type 0} (index : Index A) (n : ℕ) (e : Entry) (event : told.Event) (r : PlacedRows) → IsRowsOfEntry index n r → e ≡ get_or index.entries.items n e
    → event_at (drop e.map (index_bytes index)) ≡ Some (event_of event) → event.pos ≡ e.map → placed event ≡ r.map
own_map index n e event r is item read pos = placed_is (index_bytes index) r.map e.map event (ap (λ (x : Entry). x.map) (own_entry index n e r is item)) is.known.map.member read pos

-- its map can be read
pub map_told : {A : Type 0} (P : Event → Type 0) (index : Index A) (n : ℕ) (e : Entry) (r : PlacedRows) → IsRowsOfEntry index n r → e ≡ get_or index.entries.items n e → P r.map.event
    → IfSome (event_at (drop e.map (index_bytes index))) P
map_told P index n e r is item told = grind (arith, own_entry index n e r is item)

-- ---- what it says

-- of two kinds of which the first isn't one of rows events
past : (b : Bool) (x y : EventKind) (k : RowsKind) → rows_of_kind x ≡ None → rows_of_kind (if b then x else y) ≡ Some k → rows_of_kind y ≡ Some k
past b x y k none is = grind arith

neither : (b : Bool) (x y : EventKind) → rows_of_kind x ≡ None → rows_of_kind y ≡ None → rows_of_kind (if b then x else y) ≡ None
neither b x y first second = grind arith

no_query : (o : Option (List ℕ)) → rows_of_kind (option_map_or query_kind o kind.BadQuery) ≡ None
unfolding query_kind
no_query o = grind (arith, neither)

by_number : (o : Option RowsKind) (other : EventKind) (k : RowsKind) → rows_of_kind other ≡ None → rows_of_kind (option_map_or kind.Rows o other) ≡ Some k → o ≡ Some k
by_number o other k none is = grind arith

-- the type of a rows event tells its kind
pub kind_by_type : (e : Event) (k : RowsKind) → kind_of e ≡ kind.Rows k → rows_kind_of e.kind ≡ Some k
unfolding kind_of
kind_by_type e k is =
    by_number (rows_kind_of e.kind) (other_kind e.kind e.flags) k (neither _ kind.Skippable kind.Unknown refl refl)
    (past (e.kind == 39) kind.PartialRows _ k refl (past (e.kind == 19) kind.TableMap _ k refl (past (e.kind == 15) kind.SecondFormat _ k refl
    (past (is_one_of (1 ∷ 5 ∷ 6 ∷ 7 ∷ 8 ∷ 9 ∷ 10 ∷ 11 ∷ 12 ∷ 13 ∷ 14 ∷ 17 ∷ 18 ∷ []) e.kind) kind.StatementChange _ k refl (past (e.kind == 29) kind.RowsQuery _ k refl
    (past (is_one_of (3 ∷ 4 ∷ 35 ∷ []) e.kind) kind.BetweenTransactions _ k refl (past (is_one_of (33 ∷ 34 ∷ []) e.kind) kind.Gtid _ k refl
    (past (e.kind == 16) kind.Xid _ k refl (past (e.kind == 2) (option_map_or query_kind (query_text e.body) kind.BadQuery) _ k (no_query (query_text e.body)) (ap rows_of_kind is))))))))))

-- so the event of an entry has the kind of its rows event
pub type_known : (r : PlacedRows) (event : told.Event) → kind_at r.event ≡ kind.Rows r.kind → placed event ≡ r.event → rows_kind_of event.header.kind ≡ Some r.kind
type_known r event kind_is same = ap (λ (p : Placed). rows_kind_of p.event.kind) same ∙ kind_by_type r.event.event r.kind kind_is

pub kind_same : (r : PlacedRows) (event : told.Event) (k : RowsKind) → kind_at r.event ≡ kind.Rows r.kind → placed event ≡ r.event → Some k ≡ rows_kind_of event.header.kind → k ≡ r.kind
kind_same r event k kind_is same told = same_Some k r.kind (told ∙ type_known r event kind_is same)

-- the body is read by the map's layout
pub body_read : (r : PlacedRows) (event map : told.Event) (k : RowsKind) (columns : Layout) → rows_by_map r.kind r.map.event.body r.event.event.body ≡ Ok r.body → placed event ≡ r.event → placed map ≡ r.map
    → k ≡ r.kind → layout_of map.body.now ≡ Ok columns → rows_of k columns event.body.now ≡ Ok r.body
body_read r event map k columns read event_same map_same kind_is laid = grind arith

pub same_body : (x y : RowsBody) → ◌≡◌ {A = Result RowsBody RowFault} (Ok x) (Ok y) → x ≡ y
same_body x y same = cc

-- so it is this one
pub rows_is : (r : PlacedRows) (event map : told.Event) (k : RowsKind) (b : RowsBody) → placed event ≡ r.event → placed map ≡ r.map → k ≡ r.kind → b ≡ r.body
    → r ≡ record { event = placed event; map = placed map; kind = k; body = b }
rows_is r event map k b event_same map_same kind_is body_is = λ i. record { event = sym event_same i; map = sym map_same i; kind = sym kind_is i; body = sym body_is i }
