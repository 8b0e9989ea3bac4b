-- Where nothing has to be cut, the normal form is laid out.
use Rattle.blog_split.proofs.Small.{small-is-normal}
use Rattle.blog_split.proofs.laws.split_of_small_is_normal.Goals as goal

pub returns : goal.returns
returns c = small-is-normal
