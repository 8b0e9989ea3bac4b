use Rattle.blog_merge.proofs.Columns.{merged-own}
use Rattle.blog_merge.proofs.row_laws.own_row_is_updated.Goals as goal

pub returns : goal.returns
returns c = merged-own
