use Rattle.blog_row.proofs.TypeBytes.{Stored}
use Rattle.blog_row.proofs.layout.are_columns.Given as goal

abbrev pub invariant-loop-kind : goal.invariant-loop-kind
invariant-loop-kind l = Stored l.kinds l.metadata l.kind-index l.at
