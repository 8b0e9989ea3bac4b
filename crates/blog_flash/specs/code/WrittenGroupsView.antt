-- What a contract sees of the groups of an index that are to be written.
use Rattle.std.specs.Prelude.{List, map}
use Rattle.blog_trans.specs.code.GroupEventsView.{events_left}
use Rattle.blog_flash.specs.code.LaidOut.{written_in}
use Rattle.blog_flash.specs.Written.{Written}
use Rattle.blog_flash.specs.declared.written_events.WrittenGroups.{WrittenGroups}

-- those of the events that are left
abbrev pub groups_to_come : {A : Type 0} → WrittenGroups A → List Written
groups_to_come groups = map (written_in groups.order) (events_left groups.events)
