use Rattle.std.proofs.Common.{◌∙◌, refl}
use Rattle.blog_row.proofs.Layouts.{metadata_of_columns, types_of_columns}
use Rattle.blog_columns.proofs.reading.read_columns.Goals as goal

pub loop-kind-init : goal.loop-kind-init
loop-kind-init g c =
    let kinds = c.args.layout.now.kinds.now in
    let metadata = c.args.layout.now.metadata.now in
    rw (
      c.new-columns.ensures.items,
      c.types-types.ensures ∙ types_of_columns kinds metadata,
      c.metadata-metadata.ensures ∙ metadata_of_columns kinds metadata c.args.layout.now.whole,
    ) refl
