-- The entry is that of a rows event of the groups, so its body is read by its map's layout.
use Rattle.std.proofs.Common.{IsSome, is_some, sym, ap, ◌∙◌, arith}
use Rattle.std.specs.Result.{IsOk, is_ok}
use Rattle.std.proofs.lemmas.Option.{none-some, slice_get_within}
use Rattle.blog_row.specs.TableMap.{names_of, layout_of}
use Rattle.blog_row.specs.code.LayoutView.{layout_columns}
use Rattle.blog_row.specs.code.RowsEventView.{rows_kind, rows_body}
use Rattle.blog_trans.specs.declared.lists.Entry.{Entry}
use Rattle.blog_trans.specs.code.Entries.{rows_entry}
use Rattle.blog_trans.specs.code.IndexView.{index_bytes}
use Rattle.blog_trans.proofs.IndexFacts.{some_at}
use Rattle.blog_trans.proofs.IndexRows.{own_entry, own_event, own_map, map_told, kind_same, type_known, body_read, same_body, rows_is}
use Rattle.blog_trans.proofs.groups.Index.group_rows.Goals as goal

pub index-entry-requires : goal.index-entry-requires
index-entry-requires g c = let (r, of) = c.requires.rows in omega (arith, slice_get_within c.args.self.now.entries.items c.args.n (rows_entry r) of.here)

pub event_at-event-requires : goal.event_at-event-requires
event_at-event-requires g c =
    let (r, of) = c.requires.rows in
    some_at (index_bytes c.args.self.now) r.event c.index-entry.result.now.at (ap (λ (e : Entry). e.at) (own_entry c.args.self.now c.args.n c.index-entry.result.now r of c.index-entry.ensures)) of.known.member

pub map_at-map-requires-clause-some : goal.map_at-map-requires-clause-some
map_at-map-requires-clause-some g c =
    let (r, of) = c.requires.rows in
    some_at (index_bytes c.args.self.now) r.map c.index-entry.result.now.map (ap (λ (e : Entry). e.map) (own_entry c.args.self.now c.args.n c.index-entry.result.now r of c.index-entry.ensures)) of.known.map.member

pub map_at-map-requires-clause-named : goal.map_at-map-requires-clause-named
map_at-map-requires-clause-named g c =
    let (r, of) = c.requires.rows in
    map_told (λ e. IsSome (names_of e.body)) c.args.self.now c.args.n c.index-entry.result.now r of c.index-entry.ensures (ap is_some of.known.map.names_are)

pub map_at-map-requires-clause-laid_out : goal.map_at-map-requires-clause-laid_out
map_at-map-requires-clause-laid_out g c =
    let (r, of) = c.requires.rows in
    map_told (λ e. IsOk (layout_of e.body)) c.args.self.now c.args.n c.index-entry.result.now r of c.index-entry.ensures (ap is_ok of.known.map.layout_is)

pub unreachable-requires : goal.unreachable-requires
unreachable-requires g c =
    let (r, of) = c.requires.rows in
    let event = own_event c.args.self.now c.args.n c.index-entry.result.now c.event_at-event.result r of c.index-entry.ensures c.event_at-event.ensures.event c.event_at-event.ensures.pos in
    none-some r.kind (c.in_default.ensures ∙ type_known r c.event_at-event.result of.known.kind_is event)

pub known-requires : goal.known-requires
known-requires g c =
    let (r, of) = c.requires.rows in
    let entry = c.index-entry.result.now in
    let event = own_event c.args.self.now c.args.n entry c.event_at-event.result r of c.index-entry.ensures c.event_at-event.ensures.event c.event_at-event.ensures.pos in
    let map = own_map c.args.self.now c.args.n entry c.map_at-map.result.event r of c.index-entry.ensures c.map_at-map.ensures.event c.map_at-map.ensures.pos in
    let kind = kind_same r c.event_at-event.result c.in-Some.kind of.known.kind_is event c.in-Some.ensures in
    ap is_ok (body_read r c.event_at-event.result c.map_at-map.result.event c.in-Some.kind (layout_columns c.map_at-map.result.layout) of.known.read event map kind c.map_at-map.result.laid_out)

pub returns-clause-rows : goal.returns-clause-rows
returns-clause-rows g c = λ r of.
    let entry = c.index-entry.result.now in
    let event = own_event c.args.self.now c.args.n entry c.event_at-event.result r of c.index-entry.ensures c.event_at-event.ensures.event c.event_at-event.ensures.pos in
    let map = own_map c.args.self.now c.args.n entry c.map_at-map.result.event r of c.index-entry.ensures c.map_at-map.ensures.event c.map_at-map.ensures.pos in
    let kind = kind_same r c.event_at-event.result c.in-Some.kind of.known.kind_is event c.in-Some.ensures in
    let body = body_read r c.event_at-event.result c.map_at-map.result.event c.in-Some.kind (layout_columns c.map_at-map.result.layout) of.known.read event map kind c.map_at-map.result.laid_out in
    rows_is r c.event_at-event.result c.map_at-map.result.event (rows_kind c.known.result) (rows_body c.known.result) event map (c.known.ensures.of_kind ∙ kind) (same_body (rows_body c.known.result) r.body (sym c.known.ensures.body ∙ body))
