use Rattle.blog_event.proofs.Opened.{log-opened}
use Rattle.blog_event.proofs.log.Log.format.Goals as goal

pub returns-clause-opened : goal.returns-clause-opened
returns-clause-opened c = log-opened c.args.self.now
