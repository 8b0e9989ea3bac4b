use Rattle.std.proofs.Common.{◌++◌, map, ap}
use Rattle.blog_row.specs.Column.{columns_of}
use Rattle.blog_row.specs.code.ValuesView.{value_bytes}
use Rattle.blog_pairs.specs.Spelled.{values_text}
use Rattle.blog_pairs.proofs.Texts.{all_put, are_parts}
use Rattle.blog_pairs.proofs.spelling.put_values.Goals as goal

pub loop-value-init : goal.loop-value-init
loop-value-init g c =
    let layout = c.args.layout.now in
    let parts = are_parts layout.kinds.now layout.metadata.now c.types-kinds.result.now c.metadata-metadata.result.now layout.whole c.types-kinds.ensures c.metadata-metadata.ensures in
    record { whole = parts.whole; left = ap (λ columns. c.args.image.now.items ++ values_text columns (map value_bytes c.args.row.now)) parts.columns }

pub returns : goal.returns
returns g c =
    all_put value_bytes (columns_of c.loop-value.kinds.now c.loop-value.metadata.now) c.args.row.now c.loop-value.value-index c.loop-value.image.items _ c.loop-value-test.false c.loop-value.invariant.left
