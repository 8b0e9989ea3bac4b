-- What a contract sees of the rows by time.
use Rattle.blog_report.specs.declared.sums.RowSums.{RowSums}
use Rattle.blog_report.specs.declared.timeline.Timeline.{Timeline}
use Rattle.blog_report.specs.Cells.{all_rows}
use Rattle.blog_report.specs.Sums.{plus}

-- all its rows
abbrev pub timeline_rows : {A : Type 0} → Timeline A → RowSums
timeline_rows timeline = plus (all_rows timeline.cells.entries) timeline.untimed
