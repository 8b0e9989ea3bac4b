use Rattle.std.proofs.Common.{arith}
use Rattle.std.proofs.lemmas.Grind.{common_steps}
use Rattle.blog_trans.specs.code.IndexView.{index_bytes, index_selection}
use Rattle.blog_flash.proofs.PrintedParts.{summary-parts}
use Rattle.blog_flash.proofs.put_summary.put_summary.Goals as goal

pub returns : goal.returns
returns g c =
    let parts = summary-parts (index_bytes c.args.index.now) (index_selection c.args.index.now) c.transactions.result c.all_statements.result c.transactions.ensures c.all_statements.ensures in
    grind (arith, common_steps, parts, c.in_ok-put_total.ensures.ok, c.in_ok-put_total-2.ensures.ok, c.in_ok-put_counts.ensures.ok, c.new-out.ensures.items)
