use Rattle.std.proofs.Common.{rules}
use Rattle.blog_trans.proofs.Checking.{end-passes}
use Rattle.blog_trans.proofs.checker.Checker.end.Goals as goal

pub returns-clause-checked : goal.returns-clause-checked
returns-clause-checked g c = λ sel e earlier is_end h. end-passes sel _ earlier c.args.self.now is_end (search rules) (search rules) h
