-- The program's names and choices as values.
use Rattle.std.specs.Prelude.{map}
use Rattle.std.specs.Option.{option_copied}
use Rattle.blog_choice.specs.Choice.{Name, Choice}
use Rattle.blog_choice.specs.declared.choice.TableName as name
use Rattle.blog_choice.specs.declared.choice.TableChoice as choice

abbrev pub name_value : name.TableName → Name
name_value n = record { schema = option_copied n.schema; table = n.table.now }

abbrev pub choice_value : choice.TableChoice → Choice
choice_value c = record { database = option_copied c.database; tables = map name_value c.tables.now; excluded = map name_value c.excluded.now }
