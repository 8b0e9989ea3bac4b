-- The program's names of schemas as values.
use Rattle.blog_sql.specs.Changed.{Schema}
use Rattle.blog_sql.specs.declared.options.Renamed.{Renamed}

abbrev pub renamed_value : Renamed → Schema
renamed_value pair = record { from = pair.from.now; to = pair.to.now }
