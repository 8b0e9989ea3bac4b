-- What a contract sees of the names of logs that are read as one.
use Rattle.std.specs.Prelude.{map}
use Rattle.undo_run.specs.Several.{Begun, Located, Names}
use Rattle.undo_run.specs.declared.log_names.Begun as begun
use Rattle.undo_run.specs.declared.log_names.Located as told_place
use Rattle.undo_run.specs.declared.log_names.Names as told

abbrev pub begun_told : begun.Begun → Begun
begun_told b = record { number = b.number; start = b.start; name = b.name.now }

abbrev pub names_told : {A : Type 0} → told.Names A → Names
names_told names = record { first = names.first.now; more = map begun_told names.more.items; last = names.last }

abbrev pub located_told : told_place.Located → Located
located_told place = record { number = place.number; name = place.name.now; at = place.at }
