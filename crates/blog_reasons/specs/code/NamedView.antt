-- What a contract sees of a table that a table map names.
use Rattle.std.specs.Prelude.{ℕ, List, [], ◌∷◌, length}
use Rattle.std.specs.Hash.{le_bytes}
use Rattle.blog_row.specs.TableMap.{Table}
use Rattle.blog_reasons.specs.declared.named.NamedTable.{NamedTable}

-- such a table, without where its names lie
abbrev pub table_value : NamedTable → Table
table_value t = record { schema = t.schema.now; name = t.table.now }

-- what is hashed of it
abbrev pub parts : NamedTable → List (List ℕ)
parts t = le_bytes 8 (length t.schema.now) ∷ t.schema.now ∷ t.table.now ∷ []
