-- What a contract sees of a column.
use Rattle.blog_row.specs.Column as row
use Rattle.blog_columns.specs.declared.column.Column.{Column}

-- its type and its metadata
abbrev pub column_seen : Column → row.Column
column_seen column = record { kind = column.kind; metadata = column.metadata.now }
