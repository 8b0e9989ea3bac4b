use Rattle.std.proofs.Common.{List, ℕ, true, length, sym, ap, subst, ◌∙◌, arith}
use Rattle.std.proofs.lemmas.Option.{none-some, slice_get_within}
use Rattle.blog_event.specs.File.{Placed}
use Rattle.blog_row.specs.RowsEvent.{IsRowsBody}
use Rattle.blog_row.specs.RowsWriting.{content_of, written_body}
use Rattle.blog_row.specs.declared.kind.RowsKind.{RowsKind}
use Rattle.blog_trans.specs.declared.lists.Entry.{Entry}
use Rattle.blog_trans.specs.code.Entries.{rows_entry}
use Rattle.blog_trans.specs.code.IndexView.{Stands, index_bytes, index_selection}
use Rattle.blog_trans.proofs.IndexFacts.{some_at}
use Rattle.blog_trans.proofs.IndexRows.{own_entry, own_event, kind_same, type_known}
use Rattle.blog_trans.proofs.RowsFields.{fields-found}
use Rattle.blog_trans.proofs.groups.Index.rows_len.Goals as goal

pub index-requires : goal.index-requires
index-requires g c = let (r, of) = c.requires in omega (arith, slice_get_within c.args.self.now.entries.items c.args.n (rows_entry r) of.here)

pub event_at-event-requires : goal.event_at-event-requires
event_at-event-requires g c =
    let (r, of) = c.requires in
    some_at (index_bytes c.args.self.now) r.event c.index.result.now.at (ap (λ (e : Entry). e.at) (own_entry c.args.self.now c.args.n c.index.result.now r of c.index.ensures)) of.known.member

pub unreachable-requires : goal.unreachable-requires
unreachable-requires g c =
    let (r, of) = c.requires in
    let event = own_event c.args.self.now c.args.n c.index.result.now c.event_at-event.result r of c.index.ensures c.event_at-event.ensures.event c.event_at-event.ensures.pos in
    none-some r.kind (c.in_default.ensures ∙ type_known r c.event_at-event.result of.known.kind_is event)

pub written_len-requires : goal.written_len-requires
written_len-requires g c =
    let (r, of) = c.requires in
    let event = own_event c.args.self.now c.args.n c.index.result.now c.event_at-event.result r of c.index.ensures c.event_at-event.ensures.event c.event_at-event.ensures.pos in
    let kind = kind_same r c.event_at-event.result c.in-Some.kind of.known.kind_is event c.in-Some.ensures in
    let fields = fields-found (Stands (index_bytes c.args.self.now)) (index_selection c.args.self.now) of.maps r of.known in (
      of.known.map.layout,
      r.body,
      subst (λ (k : RowsKind). IsRowsBody k of.known.map.layout c.event_at-event.result.body.now r.body) (sym kind)
          (subst (λ (body : List ℕ). IsRowsBody r.kind of.known.map.layout body r.body) (sym (ap (λ (p : Placed). p.event.body) event)) fields),
    )

pub returns-clause-event : goal.returns-clause-event
returns-clause-event g c r of = own_event c.args.self.now c.args.n c.index.result.now c.event_at-event.result r of c.index.ensures c.event_at-event.ensures.event c.event_at-event.ensures.pos

pub returns-clause-len : goal.returns-clause-len
returns-clause-len g c r of =
    let event = own_event c.args.self.now c.args.n c.index.result.now c.event_at-event.result r of c.index.ensures c.event_at-event.ensures.event c.event_at-event.ensures.pos in
    let kind = kind_same r c.event_at-event.result c.in-Some.kind of.known.kind_is event c.in-Some.ensures in
    let fields = fields-found (Stands (index_bytes c.args.self.now)) (index_selection c.args.self.now) of.maps r of.known in
    c.written_len.ensures of.known.map.layout r.body (subst (λ (k : RowsKind). IsRowsBody k of.known.map.layout c.event_at-event.result.body.now r.body) (sym kind)
    (subst (λ (body : List ℕ). IsRowsBody r.kind of.known.map.layout body r.body) (sym (ap (λ (p : Placed). p.event.body) event)) fields))
    ∙ ap (λ (k : RowsKind). length (written_body true (content_of k r.body))) kind
