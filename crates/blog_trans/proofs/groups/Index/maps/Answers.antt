use Rattle.std.proofs.Common.{sym}
use Rattle.blog_trans.specs.code.IndexView.{index_groups, statement_at}
use Rattle.blog_trans.proofs.EntriesFound.{many}
use Rattle.blog_trans.proofs.groups.Index.maps.Goals as goal

pub returns : goal.returns
returns g c = many (λ x. x.maps) (statement_at (index_groups c.args.self.now) c.args.t c.args.s) c.statement.result.maps c.requires (sym c.statement.ensures.maps)
