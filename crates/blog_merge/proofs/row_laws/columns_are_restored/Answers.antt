use Rattle.blog_merge.proofs.Values.{restores-columns}
use Rattle.blog_merge.proofs.row_laws.columns_are_restored.Goals as goal

pub returns : goal.returns
returns c = restores-columns
