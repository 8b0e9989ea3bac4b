-- What is read stands at the front, and what stands there is read.
use Rattle.blog_gtid.proofs.laws.reading_an_integer_is_exact.Goals as goal
use Rattle.blog_gtid.proofs.Spellings.{integer-found, integer-again}

pub returns : goal.returns
returns c = record { exact = λ bytes v rest are. (integer-found bytes v rest are, λ h. rw h.2 (integer-again h.0 v rest h.1)) }
