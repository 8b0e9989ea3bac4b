-- How a result file is written, by what has its name already.
use Rattle.std.specs.Prelude.{Bool, true, false, Result, Ok, Err}
use Rattle.result_file.specs.declared.found.Found.{Found}
use Rattle.result_file.specs.declared.found.Found.TheVariants as found
use Rattle.result_file.specs.declared.found.Way.{Way}
use Rattle.result_file.specs.declared.found.Way.TheVariants as way
use Rattle.result_file.specs.declared.found.Refusal.{Refusal}
use Rattle.result_file.specs.declared.found.Refusal.TheVariants as refusal

-- a file is replaced only where it may be; a device is written to; a log, a link or a directory is left alone in any case
abbrev pub way_of : Found → Bool → Result Way Refusal
way_of found.Nothing false = Ok way.New
way_of found.Nothing true = Ok way.Replacing
way_of found.File false = Err refusal.IsThere
way_of found.File true = Ok way.Replacing
way_of found.Device replace = Ok way.Direct
way_of found.Log replace = Err refusal.IsLog
way_of found.Link replace = Err refusal.IsLink
way_of found.Directory replace = Err refusal.IsDirectory
