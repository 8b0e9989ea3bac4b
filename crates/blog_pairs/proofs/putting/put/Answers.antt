use Rattle.std.proofs.Common.{sym, subst}
use Rattle.blog_pairs.specs.code.ColumnsView.{columns_told}
use Rattle.blog_pairs.specs.code.PairsView.{HasPrint}
use Rattle.blog_pairs.proofs.Fitted.{kept_is, still_fits, table_print}
use Rattle.blog_pairs.proofs.putting.put.Goals as goal

pub returns-in-Some-kept-clause-fits : goal.returns-in-Some-kept-clause-fits
returns-in-Some-kept-clause-fits g c = λ bodies fits.
    let own = table_print bodies c.args.pairs.now c.args.table.now c.args.pair c.print-print.result c.deref.result.now fits c.requires.own c.deref.ensures.value c.print-print.ensures in
    let kept = kept_is (columns_told c.args.table.now.columns) c.args.pair c.in-Some-kept.pair (sym c.in-Some-kept.ensures) in
    still_fits bodies c.args.pairs.now _ c.args.table.now fits (c.replace.ensures.kept bodies fits.kept (subst (λ p. HasPrint bodies p c.print-print.result) kept own))

pub returns-in-None-kept-clause-fits : goal.returns-in-None-kept-clause-fits
returns-in-None-kept-clause-fits g c = λ bodies fits. still_fits bodies c.args.pairs.now _ c.args.table.now fits (c.clear.ensures.kept bodies fits.kept)

pub returns-in-Some-kept-2-clause-fits : goal.returns-in-Some-kept-2-clause-fits
returns-in-Some-kept-2-clause-fits g c = λ bodies fits.
    let own = table_print bodies c.args.pairs.now c.args.table.now c.args.pair c.print-print.result c.deref.result.now fits c.requires.own c.deref.ensures.value c.print-print.ensures in
    let kept = kept_is (columns_told c.args.table.now.columns) c.args.pair c.in-Some-kept-2.pair (sym c.in-Some-kept-2.ensures) in
    still_fits bodies c.args.pairs.now _ c.args.table.now fits (c.push.ensures.kept bodies fits.kept (subst (λ p. HasPrint bodies p c.print-print.result) kept own))
