use Rattle.std.proofs.Common.{◌≤◌, ◌<◌, length, slice_get, rules, append_assoc, subst, IsSome, sym, ap, refl, arith, ◌∙◌, [], ◌+◌}
use Rattle.std.specs.Option.{option_map_or}
use Rattle.std.proofs.lemmas.Option.{slice_get_within}
use Rattle.blog_row.specs.declared.order.Order.TheVariants.{Forward}
use Rattle.blog_trans.specs.code.Entries.{rows_entry, statements_at}
use Rattle.blog_trans.specs.code.GroupEventsView.{IsTurn, among}
use Rattle.blog_trans.specs.declared.group_events.Turn.TheVariants as turn
use Rattle.blog_trans.specs.code.IndexView.{index_groups, maps_in, rows_in, statement_at}
use Rattle.blog_trans.specs.code.InTurn.{Changes, Ends, Maps, in_order}
use Rattle.blog_trans.proofs.EntriesFound.{counted, inner, mapped}
use Rattle.blog_trans.proofs.IndexFacts.{end_read, map_read, rows_read}
use Rattle.blog_trans.proofs.Turns.{all-among, first-taken, none-among, none-in-order, one-below, rows-last, some-in-order, taken-among}
use Rattle.blog_trans.proofs.group_events.GroupEvents.turn.Goals as goal

pub returns-in_default : goal.returns-in_default
returns-in_default g c =
    let before = c.statements.self in
    let ts = index_groups before.index.now in
    let no_maps : before.maps.end ≤ before.maps.start = search rules in
    let no_rows : before.rows.end ≤ before.rows.start = search rules in
    let (x, at, of) = end_read before.index.now before.transaction c.end_entry.result (before.opened c.statements.invariant.opened) c.end_entry.ensures in
    let maps = none-among before.maps (maps_in ts before.transaction before.statement) no_maps in
    let rows = none-in-order before.order before.rows (rows_in ts before.transaction before.statement) no_rows in
    let statements = none-in-order before.order before.statements (statements_at ts before.transaction) c.in_default.ensures.0 in
    record { index = c.statements.invariant.index; event = Ends x.end; first = sym c.statements.invariant.left ∙ rw (c.statements.invariant.opened, maps, rows, statements, at) refl; is = subst (λ i. IsTurn i.now (turn.End c.end_entry.result) (Ends x.end)) c.statements.invariant.index (x.end, of, refl) }

pub invariant_of-self-in-statements-clause-statements_known : goal.invariant_of-self-in-statements-clause-statements_known
invariant_of-self-in-statements-clause-statements_known g c = λ s low high.
    let before = c.statements.self in
    let (first, last, next, within) = taken-among before.order before.statements c.in-Some.s c.take.new.numbers c.in-Some.ensures.1 c.in-Some.ensures.0 in
    before.statements_known s (omega (arith, low, next)) (omega (arith, high, within))

pub invariant_of-self-in-statements-clause-maps_known : goal.invariant_of-self-in-statements-clause-maps_known
invariant_of-self-in-statements-clause-maps_known g c = λ m low high.
    let before = c.statements.self in
    one-below (λ y. y.maps) (statement_at (index_groups before.index.now) before.transaction c.in-Some.s) c.maps.result m c.maps.ensures high

pub invariant_of-self-in-statements-clause-rows_known : goal.invariant_of-self-in-statements-clause-rows_known
invariant_of-self-in-statements-clause-rows_known g c = λ r low high.
    let before = c.statements.self in
    one-below (λ y. y.rows) (statement_at (index_groups before.index.now) before.transaction c.in-Some.s) c.rows.result r c.rows.ensures high

pub statements-preserved : goal.statements-preserved
statements-preserved g c =
    let before = c.statements.self in
    let ts = index_groups before.index.now in
    let t = before.transaction in
    let s = c.in-Some.s in
    let none_maps : before.maps.end ≤ before.maps.start = search rules in
    let none_rows : before.rows.end ≤ before.rows.start = search rules in
    let (y, at, many) = mapped (λ y. length y.maps) (statement_at ts t s) c.maps.result c.maps.ensures in
    let first = first-taken before.order (statements_at ts t) before.statements s c.take.new.numbers y c.in-Some.ensures.1 c.in-Some.ensures.0 (sym (inner (λ x. x.statements) (slice_get ts t) s) ∙ at) in
    let no_maps = none-among before.maps (maps_in ts t before.statement) none_maps in
    let no_rows = none-in-order before.order before.rows (rows_in ts t before.statement) none_rows in
    let maps = all-among (maps_in ts t s) c.maps.result (counted (λ y. y.maps) (statement_at ts t s) c.maps.result c.maps.ensures) ∙ ap (λ o. option_map_or (λ y. y.maps) o []) at in
    let rows = all-among (rows_in ts t s) c.rows.result (counted (λ y. y.rows) (statement_at ts t s) c.rows.result c.rows.ensures) ∙ ap (λ o. option_map_or (λ y. y.rows) o []) at in
    record { index = c.statements.invariant.index; left = rw (c.statements.invariant.opened, no_maps, no_rows, first, maps, rows) (simp append_assoc) ∙ c.statements.invariant.left; opened = c.statements.invariant.opened }

pub overflow_add-result : goal.overflow_add-result
overflow_add-result g c =
    let before = c.statements.self in
    let (low, high, next, within) = taken-among Forward before.maps c.in-Some-take.m c.take-2.new.numbers c.in-Some-take.ensures.1 c.in-Some-take.ensures.0 in
    let (p, is, of) = map_read before.index.now before.transaction before.statement c.in-Some-take.m (before.first_map + c.in-Some-take.m) (before.maps_known c.in-Some-take.m low high) (ap (λ n. n + c.in-Some-take.m) (before.maps_placed c.in-Some-take.ensures.0)) in
    omega (arith, before.index.now.entries.ok, slice_get_within before.index.now.entries.items (before.first_map + c.in-Some-take.m) of.entry of.here)

pub returns-in-Some-take : goal.returns-in-Some-take
returns-in-Some-take g c =
    let before = c.statements.self in
    let ts = index_groups before.index.now in
    let (low, high, next, within) = taken-among Forward before.maps c.in-Some-take.m c.take-2.new.numbers c.in-Some-take.ensures.1 c.in-Some-take.ensures.0 in
    let (p, is, of) = map_read before.index.now before.transaction before.statement c.in-Some-take.m (before.first_map + c.in-Some-take.m) (before.maps_known c.in-Some-take.m low high) (ap (λ n. n + c.in-Some-take.m) (before.maps_placed c.in-Some-take.ensures.0)) in
    let here = sym (inner (λ x. x.maps) (statement_at ts before.transaction before.statement) c.in-Some-take.m) ∙ is in
    let taken = first-taken Forward (maps_in ts before.transaction before.statement) before.maps c.in-Some-take.m c.take-2.new.numbers p c.in-Some-take.ensures.1 c.in-Some-take.ensures.0 here in
    record {
      index = c.statements.invariant.index;
      event = Maps p;
      first = sym c.statements.invariant.left ∙ rw (c.statements.invariant.opened, taken) refl;
      is = subst (λ i. IsTurn i.now (turn.Map (before.first_map + c.in-Some-take.m)) (Maps p)) c.statements.invariant.index (p, of, refl);
    }

pub overflow_add-result-2 : goal.overflow_add-result-2
overflow_add-result-2 g c =
    let before = c.statements.self in
    let (low, high, next, within) = taken-among before.order before.rows c.in_ok-r.r c.take-3.new.numbers c.in_ok-r.ensures.1 c.in_ok-r.ensures.0 in
    let (p, is, of) = rows_read before.index.now before.transaction before.statement c.in_ok-r.r (before.first_rows + c.in_ok-r.r) (before.rows_known c.in_ok-r.r low high) (ap (λ n. n + c.in_ok-r.r) (before.rows_placed c.in_ok-r.ensures.0)) in
    omega (arith, before.index.now.entries.ok, slice_get_within before.index.now.entries.items (before.first_rows + c.in_ok-r.r) (rows_entry p) of.here)

pub returns : goal.returns
returns g c =
    let before = c.statements.self in
    let after = c.take-3.new.numbers in
    let ts = index_groups before.index.now in
    let rows = rows_in ts before.transaction before.statement in
    let (low, high, next, within) = taken-among before.order before.rows c.in_ok-r.r after c.in_ok-r.ensures.1 c.in_ok-r.ensures.0 in
    let (p, is, of) = rows_read before.index.now before.transaction before.statement c.in_ok-r.r (before.first_rows + c.in_ok-r.r) (before.rows_known c.in_ok-r.r low high) (ap (λ n. n + c.in_ok-r.r) (before.rows_placed c.in_ok-r.ensures.0)) in
    let here = sym (inner (λ x. x.rows) (statement_at ts before.transaction before.statement) c.in_ok-r.r) ∙ is in
    let taken = first-taken before.order rows before.rows c.in_ok-r.r after p c.in_ok-r.ensures.1 c.in_ok-r.ensures.0 here in
    let last = rows-last p (in_order before.order (among after rows)) c.is_empty-2.result (λ yes. none-in-order before.order after rows (let is = c.is_empty-2.ensures in search rules))
    (λ no.
    let some : after.start < after.end = let is = c.is_empty-2.ensures in search rules in
    some-in-order before.order rows after some
    (subst IsSome (inner (λ x. x.rows) (statement_at ts before.transaction before.statement) after.start) (before.rows_known after.start (omega (arith, low, next)) (omega (arith, some, within))))) in
    let same_maps = c.in_default-take.ensures.1 in
    let no_maps = none-among before.maps (maps_in ts before.transaction before.statement) c.in_default-take.ensures.0 in
    record {
      index = c.statements.invariant.index;
      event = Changes p c.is_empty-2.result;
      first = sym c.statements.invariant.left ∙ rw (c.statements.invariant.opened, same_maps, no_maps, taken, last) refl;
      is = subst (λ i. IsTurn i.now (turn.Rows (before.first_rows + c.in_ok-r.r) c.is_empty-2.result) (Changes p c.is_empty-2.result)) c.statements.invariant.index (p, of, refl);
    }
