use Rattle.std.proofs.Common.{◌≡◌, ◌++◌, drop, map}
use Rattle.std.specs.List.{flat_map}
use Rattle.undo_run.specs.Reports.{names_text, next_name}
use Rattle.undo_run.specs.code.NamesView.{begun_told, names_told}
use Rattle.undo_run.proofs.reports.put_names.Given as goal

-- the further names are left from number n on
abbrev pub invariant-loop-n : goal.invariant-loop-n
invariant-loop-n g l = l.out.items ++ flat_map next_name (map begun_told (drop l.n l.logs.more.items)) ≡ l.fn.out.items ++ names_text (names_told l.logs)
