use Rattle.std.proofs.Common.{ap, sym, ◌∙◌, arith, Ok}
use Rattle.std.proofs.lemmas.List.{length-map}
use Rattle.blog_row.specs.TableMap.{layout_of, map_names}
use Rattle.blog_pairs.proofs.Holding.{body_got, known_table, same_columns}
use Rattle.blog_pairs.proofs.tables.number_of.Goals as goal

pub returns-then-same : goal.returns-then-same
returns-then-same g c =
    let tables = c.args.tables.now in
    let n = c.in-Some.n in
    let long = length-map tables (λ t. t.body.items) in
    let got = body_got tables n c.index-tables-n.result c.in-Some.ensures.0 in
    record {
      within = omega (arith, c.in-Some.ensures.0, long);
      table = c.in-Some.ensures.1 ∙ sym (known_table c.args.body.now (map_names c.known-table.result) c.known-table.ensures);
      layout = ap layout_of got ∙ sym (ap layout_of c.deref.ensures.value) ∙ c.known.ensures
          ∙ ap Ok (same_columns c.known.result c.known-in-Some.result (sym c.same.ensures.same ∙ c.if-same.true)) ∙ sym c.known-in-Some.ensures;
    }
