use Rattle.std.proofs.Common.{◌≡◌, drop, map}
use Rattle.undo_run.specs.Several.{located, located_among}
use Rattle.undo_run.specs.code.NamesView.{begun_told, located_told, names_told}
use Rattle.undo_run.proofs.log_names.Names.located.Given as goal

-- the logs that are left decide
abbrev pub invariant-loop-n : goal.invariant-loop-n
invariant-loop-n g l = located_among (located_told l.so_far) (map begun_told (drop l.n l.self.more.items)) l.place ≡ located (names_told l.self) l.place
