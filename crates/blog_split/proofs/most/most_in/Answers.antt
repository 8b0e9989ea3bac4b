use Rattle.std.proofs.Common.{◌≡◌, ℕ, Some, slice_get, sym, ◌∙◌, arith}
use Rattle.blog_trans.specs.Groups.{PlacedStatement}
use Rattle.blog_trans.specs.code.IndexView.{index_groups, statement_at}
use Rattle.std.proofs.lemmas.Option.{slice_get_within}
use Rattle.blog_split.specs.code.Sizes.{IsAmongMost}
use Rattle.blog_split.proofs.MapIds.{at-some}
use Rattle.blog_split.proofs.Measuring.{among-more, below-next, maps-counted, rows-counted, some-from, statement-here, statement-there, statements-counted}
use Rattle.blog_split.proofs.most.most_in.Goals as goal

pub maps-requires : goal.maps-requires
maps-requires g c =
    let ts = index_groups c.args.index.now in
    let x = at-some ts c.args.t c.requires in
    let many = statements-counted (slice_get ts c.args.t) x.0 c.statements-statements.result x.1 c.statements-statements.ensures in
    let y = statement-there ts c.args.t c.statements.s x.0 x.1 (omega (arith, many, c.statements-test.true)) in
    some-from (statement_at ts c.args.t c.statements.s) y.0 y.1

pub statements-preserved : goal.statements-preserved
statements-preserved g c =
    let ts = index_groups c.args.index.now in
    record {
      maps = omega (arith, c.statements.invariant.maps, c.with_statement-most.ensures.maps);
      rows = omega (arith, c.statements.invariant.rows, c.with_statement-most.ensures.rows);
      each = λ s y below is.
          below-next (λ (k : ℕ). (y : PlacedStatement) → statement_at ts c.args.t k ≡ Some y → IsAmongMost c.with_statement-most.result y) c.statements.s
          (λ k less y at. among-more c.statements.most c.with_statement-most.result y c.with_statement-most.ensures.maps c.with_statement-most.ensures.rows (c.statements.invariant.each k y less at))
          (λ y at. record {
            maps = omega (arith, maps-counted (statement_at ts c.args.t c.statements.s) y c.maps.result at c.maps.ensures, c.with_statement-most.ensures.own_maps);
            rows = omega (arith, rows-counted (statement_at ts c.args.t c.statements.s) y c.rows.result at c.rows.ensures, c.with_statement-most.ensures.own_rows);
          }) s below y is;
    }

pub returns-clause-each : goal.returns-clause-each
returns-clause-each g c s y is =
    let ts = index_groups c.args.index.now in
    let x = at-some ts c.args.t c.requires in
    let many = statements-counted (slice_get ts c.args.t) x.0 c.statements-statements.result x.1 c.statements-statements.ensures in
    let within = slice_get_within x.0.statements s y (sym (statement-here ts c.args.t s x.0 x.1) ∙ is) in
    c.statements.invariant.each s y (omega (arith, many, within, c.statements-test.false)) is
