use Rattle.std.proofs.Common.{sym, ap, ◌∙◌}
use Rattle.blog_row.specs.Image.{row_of}
use Rattle.blog_pairs.specs.code.ColumnsView.{columns_told}
use Rattle.blog_pairs.specs.code.PairsView.{pairs_in, slots_told, table_at}
use Rattle.blog_pairs.proofs.Fitted.{still_fits}
use Rattle.blog_pairs.proofs.Pairing.{taken_at}
use Rattle.blog_pairs.proofs.RowPlaces.{no_place}
use Rattle.blog_pairs.proofs.steps.add_later_delete.Goals as goal

pub returns-in-Some-clause-done : goal.returns-in-Some-clause-done
returns-in-Some-clause-done g c = λ bodies fits.
    ap (pairs_in bodies) c.clear.ensures.done
    ∙ taken_at bodies (table_at bodies c.args.table.now.number) (row_of (columns_told c.args.table.now.columns) c.args.before.now) c.in-Some.slot c.args.pairs.now.slots.items (sym (c.in-Some.ensures.place bodies fits))

pub returns-in-Some-clause-fits : goal.returns-in-Some-clause-fits
returns-in-Some-clause-fits g c = λ bodies fits. still_fits bodies c.args.pairs.now _ c.args.table.now fits (c.clear.ensures.kept bodies fits.kept)

pub returns-in-None-clause-done : goal.returns-in-None-clause-done
returns-in-None-clause-done g c = λ bodies fits.
    sym (no_place (table_at bodies c.args.table.now.number) (row_of (columns_told c.args.table.now.columns) c.args.before.now) (slots_told bodies c.args.pairs.now.slots.items) (sym (c.in-None.ensures.place bodies fits))).taken
