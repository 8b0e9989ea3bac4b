use Rattle.std.proofs.Common.{ℕ, ◌+◌, List, length, drop, refl, sym, ap, ◌∙◌, arith}
use Rattle.blog_event.specs.Event.{event_of, unplaced}
use Rattle.blog_row.specs.TableMap.{map_names}
use Rattle.blog_sql.specs.Changed.{changed_map, renamed_schema}
use Rattle.blog_sql.proofs.Changing.{body-renamed, event-appended, names-read}
use Rattle.blog_sql.proofs.Lines.{rest-is}
use Rattle.blog_sql.proofs.changed.put_map.Goals as goal

pub returns-clause-items : goal.returns-clause-items
returns-clause-items g c =
    let pairs = c.args.how.now.schemas.now in
    let event = c.args.event.now in
    let body = event.body.now in
    let names = map_names c.in-Ok.map in
    let own = c.schema-schema.ensures in
    let new = ap (renamed_schema pairs) (sym own) ∙ c.in-Some.ensures.0 in
    let after = rest-is (9 + length c.schema-schema.result.now) body ∙ ap (λ (s : List ℕ). drop (9 + length s) body) own in
    let same = body-renamed pairs body c.in-Some.to.now _ names (names-read _ names c.in-Ok.ensures.exact) c.in-Ok.ensures.found new after in
    let e = changed_map c.args.how.now (unplaced (event_of event)) in
    event-appended c.args.out.now.items _ _ _ (record event.header { timestamp = c.timestamp.result }) e (rw c.unwrap-2.ensures at c.put_event_from-2.ensures.ok) same c.timestamp.ensures refl refl refl

pub returns-clause-len : goal.returns-clause-len
returns-clause-len g c =
    let pairs = c.args.how.now.schemas.now in
    let event = c.args.event.now in
    let body = event.body.now in
    let names = map_names c.in-Ok.map in
    let own = c.schema-schema.ensures in
    let new = ap (renamed_schema pairs) (sym own) ∙ c.in-Some.ensures.0 in
    let after = rest-is (9 + length c.schema-schema.result.now) body ∙ ap (λ (s : List ℕ). drop (9 + length s) body) own in
    let same = body-renamed pairs body c.in-Some.to.now _ names (names-read _ names c.in-Ok.ensures.exact) c.in-Ok.ensures.found new after in
    omega (arith, ap length same, rw c.unwrap-2.ensures at c.put_event_from-2.ensures.len)
