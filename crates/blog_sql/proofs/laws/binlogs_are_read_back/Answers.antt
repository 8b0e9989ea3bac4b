use Rattle.blog_sql.proofs.Reading.{lines-read-back}
use Rattle.blog_sql.proofs.laws.binlogs_are_read_back.Goals as goal

pub returns : goal.returns
returns c bytes are = lines-read-back bytes are
