use Rattle.std.proofs.Common.{List, bytes_eq, sym}
use Rattle.blog_trans.specs.Changes.{TableCount, counts_of}
use Rattle.blog_trans.specs.Groups.{groups}
use Rattle.blog_trans.specs.code.IndexView.{index_bytes, index_selection, table_counted}
use Rattle.blog_trans.proofs.Asking.{not-this, this-one}
use Rattle.blog_sql.proofs.schemas.has_schema.Goals as goal

pub loop-n-preserved : goal.loop-n-preserved
loop-n-preserved g c =
    let counts : List TableCount = counts_of (groups (index_bytes c.args.index.now) (index_selection c.args.index.now)) in
    not-this (λ t. bytes_eq t.table.schema c.args.name.now) counts c.loop-n.n (table_counted c.table-count.result) _ c.loop-n.invariant c.table-count.ensures (sym c.if-eq.ensures)

pub returns-then-eq : goal.returns-then-eq
returns-then-eq g c =
    let counts : List TableCount = counts_of (groups (index_bytes c.args.index.now) (index_selection c.args.index.now)) in
    this-one (λ t. bytes_eq t.table.schema c.args.name.now) counts c.loop-n.n (table_counted c.table-count.result) _ c.loop-n.invariant c.table-count.ensures (sym c.if-eq.ensures)
