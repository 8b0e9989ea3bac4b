-- The value of a column is the one of that number among all of them.
use Rattle.std.proofs.Common.{◌∙◌, sym}
use Rattle.std.proofs.lemmas.Iterator.Consumers.{nth_from_yields_List, YieldsList-from_first}
use Rattle.blog_row.specs.code.LayoutView.{layout_columns}
use Rattle.blog_row.specs.code.ValuesView.{value_bytes, values_left}
use Rattle.blog_row.proofs.ValueWalking.{value_is}
use Rattle.blog_row.proofs.layout.Layout.value.Goals as goal

pub returns : goal.returns
returns c = record {
  value = nth_from_yields_List c.nth.result c.nth.new.self c.args.column c.nth.ensures.ran (YieldsList-from_first value_bytes values_left _ c.values.ensures.values)
      ∙ sym (value_is (layout_columns c.args.self.now) c.args.image.now c.args.column);
}
