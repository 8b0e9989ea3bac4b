use Rattle.std.proofs.Common.{length}
use Rattle.blog_columns.proofs.reading.is_among.Given as goal

abbrev pub decreases-keys : goal.decreases-keys
decreases-keys l = length l.rest
