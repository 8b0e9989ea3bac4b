use Rattle.std.proofs.Common.{length}
use Rattle.blog_columns.proofs.reading.count_numbers.Given as goal

abbrev pub decreases-numbers : goal.decreases-numbers
decreases-numbers l = length l.rest
