use Rattle.blog_split.proofs.Flags.{flags-push}
use Rattle.blog_split.proofs.piece_maps.push_flag.Goals as goal

pub returns-clause-flags : goal.returns-clause-flags
returns-clause-flags g c numbers are = rw (rw c.unwrap.ensures at c.push.ensures.items) (flags-push numbers c.args.flags.now.items are)
