use Rattle.std.proofs.Common.{◌∙◌}
use Rattle.blog_row.proofs.Walking.{image_only}
use Rattle.blog_row.proofs.layout.Layout.image_len.Goals as goal

pub returns-clause-only : goal.returns-clause-only
returns-clause-only c m h is = c.len_by_types.ensures ∙ image_only _ _ m h is
