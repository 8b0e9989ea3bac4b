use Rattle.blog_row.specs.code.StoredValuesView.{stored_values_left}
use Rattle.blog_row.specs.code.ValuesView.{value_bytes}
use Rattle.blog_pairs.proofs.Merged.{end_merged, step_merged}
use Rattle.blog_pairs.proofs.merging.merged_values.Goals as goal

pub loop-value-preserved : goal.loop-value-preserved
loop-value-preserved g c = record {
  next = tt;
  finite = tt;
  left = step_merged value_bytes c.loop-value.row.items c.push.new.self.items c.merged_value-merged.result c.in-Some.value c.next-in-loop-value.result c.next-in-loop-value-2.result
      (stored_values_left c.loop-value.befores) (stored_values_left c.next-in-loop-value.new.self) (stored_values_left c.loop-value.value-iterator) (stored_values_left c.next.new.self)
      (stored_values_left c.loop-value.others) (stored_values_left c.next-in-loop-value-2.new.self) _
      c.in_ok-push.ensures.items c.merged_value-merged.ensures c.in-Some.ensures.steps c.next-in-loop-value.ensures.steps c.next-in-loop-value-2.ensures.steps c.loop-value.invariant.left;
}

pub returns : goal.returns
returns g c =
    end_merged value_bytes c.loop-value.row.items (stored_values_left c.loop-value.befores) (stored_values_left c.loop-value.value-iterator) (stored_values_left c.loop-value.others) _
    c.in-None.ensures.steps.0 c.loop-value.invariant.left
