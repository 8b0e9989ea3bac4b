use Rattle.blog_units.proofs.Held.{transaction-held}
use Rattle.blog_units.proofs.laws.transactions_are_in_units.Goals as goal

pub returns : goal.returns
returns c = transaction-held
