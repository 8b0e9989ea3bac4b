use Rattle.std.proofs.Common.{sym, ap, ◌∙◌}
use Rattle.blog_trans.specs.code.InTurn.{Begins, Ends, Maps}
use Rattle.blog_trans.specs.declared.group_events.Turn.TheVariants as turn
use Rattle.blog_event.specs.File.{Placed}
use Rattle.blog_row.specs.RowsEvent.{table_id}
use Rattle.blog_trans.specs.code.IndexView.{Stands, index_bytes, index_selection}
use Rattle.blog_trans.proofs.RowsFields.{id-found}
use Rattle.blog_trans.proofs.Turns.{taken-is}
use Rattle.blog_trans.proofs.group_events.GroupEvents.skip_event.Goals as goal

pub returns-in-Begin : goal.returns-in-Begin
returns-in-Begin g c =
    let taken = c.in_ok-n.ensures in
    let (p, of, is) = taken-is c.args.self.now c.turn.new.self c.in_ok-n.field-0 (turn.Begin c.in-Begin.n) taken c.in-Begin.is in
    (taken.event, taken.first, is ∙ ap Begins (sym (c.event.ensures.event p of)))

pub returns-in-Map : goal.returns-in-Map
returns-in-Map g c =
    let taken = c.in_ok-n.ensures in
    let (p, of, is) = taken-is c.args.self.now c.turn.new.self c.in_ok-n.field-0 (turn.Map c.in-Map.n) taken c.in-Map.is in
    (taken.event, taken.first, is ∙ ap Maps (sym (c.event-in-Map.ensures.event p of)))

pub returns-in-Rows : goal.returns-in-Rows
returns-in-Rows g c =
    let taken = c.in_ok-n.ensures in
    let (r, of, is) = taken-is c.args.self.now c.turn.new.self c.in_ok-n.field-0 (turn.Rows c.in-Rows.n c.in-Rows.last) taken c.in-Rows.is in
    let event = c.rows_len-len.ensures.event r of in
    let id = ap (λ (p : Placed). table_id p.event.body) event ∙ id-found (Stands (index_bytes c.turn.new.self.index.now)) (index_selection c.turn.new.self.index.now) of.maps r of.known in
    (taken.event, taken.first, (r, is, record { event = event; id = id; len = c.rows_len-len.ensures.len r of }))

pub returns-in-End : goal.returns-in-End
returns-in-End g c =
    let taken = c.in_ok-n.ensures in
    let (p, of, is) = taken-is c.args.self.now c.turn.new.self c.in_ok-n.field-0 (turn.End c.in-End.n) taken c.in-End.is in
    (taken.event, taken.first, is ∙ ap Ends (sym (c.event-in-End.ensures.event p of)))
