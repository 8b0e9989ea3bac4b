use Rattle.std.proofs.Common.{◌<◌, length, [], ◌∷◌, slice_get, refl, ap, ◌∙◌, arith}
use Rattle.std.specs.Option.{option_map_or}
use Rattle.blog_trans.specs.code.Entries.{statements_at}
use Rattle.blog_trans.specs.code.IndexView.{index_groups, rows_in}
use Rattle.blog_trans.specs.code.InTurn.{Begins, Ends}
use Rattle.blog_trans.proofs.EntriesFound.{counted}
use Rattle.blog_trans.proofs.IndexFacts.{begin_read}
use Rattle.blog_trans.proofs.Turns.{all-among, first-taken, none-in-order, taken-among}
use Rattle.blog_trans.proofs.group_events.GroupEvents.begin.Goals as goal

pub returns : goal.returns
returns g c =
    let before = c.args.self.now in
    let ts = index_groups before.index.now in
    let t = c.in_ok-t.t in
    let (low, high, next, within) = taken-among before.order before.transactions t c.take.new.numbers c.in_ok-t.ensures.1 c.in_ok-t.ensures.0 in
    let below : t < length ts = omega (arith, before.known, high) in
    let (x, at, of) = begin_read before.index.now t c.begin_entry.result below c.begin_entry.ensures in
    let first = first-taken before.order ts before.transactions t c.take.new.numbers x c.in_ok-t.ensures.1 c.in_ok-t.ensures.0 at in
    let rows = none-in-order before.order (record { start = 0; end = 0 }) (rows_in ts t before.statement) (omega arith) in
    let all = all-among (statements_at ts t) c.statements.result (counted (λ x. x.statements) (slice_get ts t) c.statements.result c.statements.ensures) ∙ ap (λ o. option_map_or (λ x. x.statements) o []) at in
    let ends = ap (λ o. option_map_or (λ x. Ends x.end ∷ []) o []) at in
    record { index = refl; event = Begins x.begin; first = rw (c.requires, first, rows, all, ends) refl; is = (x.begin, of, refl) }
