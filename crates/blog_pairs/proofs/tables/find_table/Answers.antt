use Rattle.std.proofs.Common.{◌≡◌, ◌≢◌, ap, sym, ◌∙◌, arith}
use Rattle.std.proofs.lemmas.Bool.{false≢true}
use Rattle.blog_row.specs.TableMap.{map_names}
use Rattle.blog_trans.specs.Acceptance.{is_same_table}
use Rattle.blog_trans.specs.Changes.{table_of}
use Rattle.blog_trans.proofs.Tables.{own-table, same-table}
use Rattle.blog_pairs.specs.code.PairsView.{bodies_of, table_at}
use Rattle.blog_pairs.proofs.Holding.{body_there, none_more}
use Rattle.blog_pairs.proofs.tables.find_table.Goals as goal

pub returns-then-is_same : goal.returns-then-is_same
returns-then-is_same g c =
    let bodies = bodies_of c.args.tables.now in
    let held = c.held-item.result in
    let there = body_there c.args.tables.now c.loop-held.held-index held c.loop-held-test.true c.held-item.is in (
      omega (arith, c.loop-held.invariant.at, c.loop-held-test.true),
      ap (table_at bodies) c.loop-held.invariant.at ∙ ap table_of there ∙ same-table (table_of held.body.items) (map_names c.args.table.now).table (sym c.is_same.ensures ∙ c.if-is_same.true),
    )

pub loop-held-preserved : goal.loop-held-preserved
loop-held-preserved g c =
    let bodies = bodies_of c.args.tables.now in
    let t = (map_names c.args.table.now).table in
    let held = c.held-item.result in
    let there = body_there c.args.tables.now c.loop-held.held-index held c.loop-held-test.true c.held-item.is in
    let here : table_at bodies c.loop-held.n ≢ t = λ e.
    let own : table_of held.body.items ≡ t = sym (ap table_of there) ∙ sym (ap (table_at bodies) c.loop-held.invariant.at) ∙ e in
    false≢true (sym c.if-is_same.false ∙ c.is_same.ensures ∙ ap (λ u. is_same_table u t) own ∙ own-table t) in
    record {
      at = omega (arith, c.loop-held.invariant.at);
      none = none_more bodies t c.loop-held.n c.loop-held.invariant.none here;
    }
