use Rattle.std.proofs.Common.{◌+◌, Some, Ok, refl, sym, ap, ◌∙◌, arith}
use Rattle.std.proofs.lemmas.Option.{slice_get_within}
use Rattle.blog_row.specs.code.LayoutView.{layout_columns}
use Rattle.blog_trans.specs.code.Entries.{rows_entry}
use Rattle.blog_trans.specs.code.IndexView.{index_groups, statement_at}
use Rattle.blog_trans.proofs.EntriesFound.{list_some}
use Rattle.blog_trans.proofs.IndexFacts.{rows_read}
use Rattle.blog_trans.proofs.groups.Index.rows_event.Goals as goal

pub first_rows-requires : goal.first_rows-requires
first_rows-requires g c = list_some (λ x. x.rows) (statement_at (index_groups c.args.self.now) c.args.t c.args.s) c.args.r c.requires

pub overflow_add-first_rows : goal.overflow_add-first_rows
overflow_add-first_rows g c =
    let (p, is, of) = rows_read c.args.self.now c.args.t c.args.s c.args.r (c.first_rows.result + c.args.r) c.requires (ap (λ n. n + c.args.r) c.first_rows.ensures) in
    omega (arith, slice_get_within c.args.self.now.entries.items (c.first_rows.result + c.args.r) (rows_entry p) of.here)

pub group_rows-requires-clause-rows : goal.group_rows-requires-clause-rows
group_rows-requires-clause-rows g c =
    let (p, is, of) = rows_read c.args.self.now c.args.t c.args.s c.args.r (c.first_rows.result + c.args.r) c.requires (ap (λ n. n + c.args.r) c.first_rows.ensures) in
    (p, of)

pub returns : goal.returns
returns g c =
    let (p, is, of) = rows_read c.args.self.now c.args.t c.args.s c.args.r (c.first_rows.result + c.args.r) c.requires (ap (λ n. n + c.args.r) c.first_rows.ensures) in
    rw (is ∙ ap Some (c.group_rows.ensures.rows p of)) (record {
      event = refl;
      kind = refl;
      read = refl;
      names = c.group_rows.result.1.named;
      layout = c.group_rows.result.1.laid_out ∙ ap (λ l. Ok (layout_columns l)) (sym c.group_rows.ensures.layout);
      size = c.group_rows.ensures.size;
    })
