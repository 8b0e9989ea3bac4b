-- What is spelled is read, and what is read is so spelled.
use Rattle.blog_choice.proofs.Names.{read-spelled, spelled-read}
use Rattle.blog_choice.proofs.laws.names_are_read.Goals as goal

pub returns : goal.returns
returns c = record { again = read-spelled; same = spelled-read }
