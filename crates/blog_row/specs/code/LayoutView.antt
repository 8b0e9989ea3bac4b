-- What a contract sees of a layout.
use Rattle.std.specs.Prelude.{Result, Ok, Err}
use Rattle.blog_row.specs.declared.fault.RowFault.{RowFault}
use Rattle.blog_row.specs.declared.layout.Layout as told
use Rattle.blog_row.specs.Column.{Layout, columns_of}

-- the columns, in order
abbrev pub layout_columns : told.Layout → Layout
layout_columns layout = columns_of layout.kinds.now layout.metadata.now

-- the columns that were read, or why they are refused
abbrev pub layout_seen : Result told.Layout RowFault → Result Layout RowFault
layout_seen (Ok layout) = Ok (layout_columns layout)
layout_seen (Err fault) = Err fault
