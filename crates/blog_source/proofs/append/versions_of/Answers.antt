use Rattle.std.proofs.Common.{sym, arith, take_all}
use Rattle.blog_source.proofs.append.versions_of.Goals as goal

pub returns-then-body-lt-VERSIONS_LEN : goal.returns-then-body-lt-VERSIONS_LEN
returns-then-body-lt-VERSIONS_LEN c = sym (take_all 52 c.args.body.now (omega (arith, c.if-body-lt-VERSIONS_LEN.true)))
