use Rattle.std.proofs.Common.{◌≡◌, ℕ, Bool, true, false, not, List, ◌≤◌, length, refl, sym, ap, ap₂, ◌∙◌, arith}
use Rattle.blog_row.specs.RowsKind.{number_of_kind}
use Rattle.blog_row.specs.code.RowsEventView.{rows_body, rows_content, rows_kind}
use Rattle.blog_trans.specs.Groups.{PlacedRows, rows_value}
use Rattle.blog_trans.specs.code.IndexView.{placed}
use Rattle.blog_trans.specs.declared.group_events.GroupRows.{GroupRows}
use Rattle.blog_flash.specs.Texts.{rows_event}
use Rattle.blog_row.specs.RowsWriting.{written_body}
use Rattle.blog_left_out.specs.LeftOut.{content_kept, rows_kept}
use Rattle.blog_left_out.specs.code.PutView.{headed}
use Rattle.blog_left_out.specs.code.StepView.{held_value}
use Rattle.blog_left_out.proofs.Stepping.{rows-out, rows-put, rows-refused}
use Rattle.blog_left_out.proofs.writing.put_changes.Goals as goal

-- the rows event as it is placed
abbrev placed_rows : GroupRows → PlacedRows
placed_rows group = record { event = placed group.event; map = placed group.map; kind = rows_kind group.rows; body = rows_body group.rows }

not-true : (b : Bool) → not b ≡ true → b ≡ false
not-true true e = sym e
not-true false e = refl

not-false : (b : Bool) → not b ≡ false → b ≡ true
not-false true e = refl
not-false false e = sym e

-- the event that is put
event-is : (ms : List Bool) (group : GroupRows) (kind : ℕ) (body : List ℕ) → kind ≡ number_of_kind (rows_kind group.rows) → body ≡ written_body true (content_kept ms (rows_content group.rows))
    → headed (record (group.event.header) { kind = kind }) body ≡ rows_event true (rows_kept ms (rows_value (placed_rows group)))
event-is ms group kind body same is = ap₂ (λ (k : ℕ) (own : List ℕ). headed (record (group.event.header) { kind = k }) own) same is

pub returns-then-not-kept : goal.returns-then-not-kept
returns-then-not-kept g c =
    let group = c.args.group.now in
    let kept = c.in-Ok.ensures.kept in
    let short : length c.args.out.now.items ≤ 4294967295 = omega (arith, c.requires, c.args.out.now.ok.0) in
    let (put, held, left) =
    rows-out c.args.marks.now (held_value c.args.held) (placed_rows group) group.last c.args.out.now.items c.in-Ok.kept.used (sym kept.stays_is ∙ not-true c.in-Ok.kept.stays c.if-not-kept.true) kept.left short in
    record { put = put; held_is = held; left = left; within = kept.within }

pub returns-in-Ok-put_three : goal.returns-in-Ok-put_three
returns-in-Ok-put_three g c =
    let group = c.args.group.now in
    let kept = c.in-Ok.ensures.kept in
    let header = record (group.event.header) { kind = c.number.result } in
    let is = event-is c.args.marks.now group c.number.result c.deref.result.now (c.number.ensures ∙ ap number_of_kind c.kind.ensures) (c.deref.ensures.value ∙ c.in-Ok.ensures.body) in
    let (put, held, left) =
    rows-put c.args.marks.now (held_value c.args.held) (placed_rows group) group.last c.args.out.now.items c.put_three.new.out.items c.in-Ok.kept.used (headed header c.deref.result.now)
    (sym kept.stays_is ∙ not-false c.in-Ok.kept.stays c.if-not-kept.false) kept.left is c.in-Ok-put_three.ensures in
    record { put = put; held_is = held; left = left; within = kept.within }

pub returns-in-Err : goal.returns-in-Err
returns-in-Err g c =
    let group = c.args.group.now in
    let kept = c.in-Ok.ensures.kept in
    let header = record (group.event.header) { kind = c.number.result } in
    let is = event-is c.args.marks.now group c.number.result c.deref.result.now (c.number.ensures ∙ ap number_of_kind c.kind.ensures) (c.deref.ensures.value ∙ c.in-Ok.ensures.body) in
    rows-refused c.args.marks.now (held_value c.args.held) (placed_rows group) group.last c.args.out.now.items (headed header c.deref.result.now) c.in-Err.fault
    (sym kept.stays_is ∙ not-false c.in-Ok.kept.stays c.if-not-kept.false) is c.in-Err.ensures
