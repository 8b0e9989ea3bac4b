-- What is read is in the body, and what is in the body is read.
use Rattle.blog_gtid.proofs.laws.reading_a_tagged_event_is_exact.Goals as goal
use Rattle.blog_gtid.proofs.Bodies.{tagged-found, tagged-again}

pub returns : goal.returns
returns c = record { exact = λ body id are. (tagged-found body id are, tagged-again body id) }
