use Rattle.blog_followed.proofs.Sets.{inserted}
use Rattle.blog_followed.proofs.prints.add_print.Goals as goal

pub returns : goal.returns
returns g c = λ q. inserted c.args.prints.now c.insert.new.self c.args.print c.in_ok-insert.ensures.updates.0 q
