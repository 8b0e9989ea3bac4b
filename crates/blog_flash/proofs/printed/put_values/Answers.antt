use Rattle.std.proofs.Common.{◌+◌, ap}
use Rattle.blog_row.specs.code.StoredValuesView.{stored_values_left}
use Rattle.blog_row.specs.code.ValuesView.{value_bytes}
use Rattle.blog_flash.specs.Printed.{value_lines}
use Rattle.blog_flash.specs.code.PrintedRows.{value_line}
use Rattle.blog_flash.proofs.Printing.{has-room}
use Rattle.blog_flash.proofs.printed.put_values.Goals as goal

pub returns-in_err-put_value_line-clause-room : goal.returns-in_err-put_value_line-clause-room
returns-in_err-put_value_line-clause-room g c enough =
    has-room _ _ _ _ (value_line c.loop-value.n (value_bytes c.in-Some.value)) (value_lines (c.loop-value.n + 1) (stored_values_left c.next.new.self)) _ _ _ _ _ _ c.in_err-put_value_line.was
    c.put_value_line.ensures.room c.loop-value.invariant.text (ap (value_lines c.loop-value.n) c.in-Some.ensures.steps) c.loop-value.out.ok.0 c.args.out.now.ok.0 c.loop-value.invariant.capacity enough
