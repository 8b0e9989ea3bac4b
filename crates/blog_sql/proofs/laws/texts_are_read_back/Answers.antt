use Rattle.blog_sql.proofs.ReadBack.{text-read-back}
use Rattle.blog_sql.proofs.laws.texts_are_read_back.Goals as goal

pub returns : goal.returns
returns c how front ts front_are are = text-read-back how front ts front_are are
