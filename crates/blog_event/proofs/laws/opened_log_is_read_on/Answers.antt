-- What is read of an opened log, by what is left.
use Rattle.blog_event.proofs.laws.opened_log_is_read_on.Goals as goal
use Rattle.blog_event.proofs.Going.{opened-reads-on}

pub returns : goal.returns
returns c = record { read_on = opened-reads-on }
