use Rattle.std.proofs.Common.{length}
use Rattle.blog_columns.proofs.fields.Fields.of_map.Given as goal

abbrev pub decreases-fields : goal.decreases-fields
decreases-fields l = length l.rest
