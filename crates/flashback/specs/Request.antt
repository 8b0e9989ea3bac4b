-- What a run is asked to do, by the values of the options.
use Rattle.std.specs.Prelude.{◌≡◌, ◌⊎◌, ℕ, Bool, true, false, List, [], ⊤, Option, Some, None, Result, Ok, Err, codes, option_map, unwrap_or}
use Rattle.std.specs.Option.{option_map_or}
use Rattle.std.specs.Str.{bytes_eq}
use Rattle.clap.specs.Words.{first_value, found_of, kind_of, one_text}
use Rattle.clap.specs.declared.error.Error.{Error}
use Rattle.clap.specs.declared.parser.matches.ArgMatches.{ArgMatches}
use Rattle.clap.specs.declared.parser.matches.Found.{Found}
use Rattle.console.specs.Positions.{IsPositionOf, IsWrongPosition}
use Rattle.console.specs.Told.{AsksForText}
use Rattle.blog_flash.specs.declared.modes.Mode.{Mode}
use Rattle.blog_flash.specs.declared.modes.Mode.TheVariants.{Flashback, Forward, FlashbackSql, ForwardSql, Summary}
use Rattle.flashback.specs.declared.arguments.Asked.{Asked}
use Rattle.flashback.specs.declared.arguments.Asked.TheVariants.{Help, Run}
use Rattle.flashback.specs.declared.arguments.ModeFault.{ModeFault}
use Rattle.flashback.specs.declared.arguments.ModeFault.TheVariants.{NotOneMode, SqlOfSummary}
use Rattle.flashback.specs.declared.arguments.Task.{Task}
use Rattle.flashback.specs.declared.arguments.ArgumentsFault.{ArgumentsFault}
use Rattle.flashback.specs.declared.arguments.ArgumentsFault.TheVariants.{Wrong, Mode as NoMode, NotText, OutOfMemory}

-- ---- positions

-- why an option has no position: its value means none, or memory was refused
abbrev pub RefusesPosition : {A : Type 0} → Option (List ℕ) → ArgumentsFault A → Type 0
RefusesPosition value (Wrong text) = IsWrongPosition value
RefusesPosition value (NoMode fault) = ⊥
RefusesPosition value NotText = ⊥
RefusesPosition value OutOfMemory = ⊤

-- ---- modes

-- a flag is among the arguments
abbrev pub is_given : Found → List ℕ → Bool
is_given found flag = option_map_or (λ text. bytes_eq text (codes "true")) (one_text found flag) false

-- the mode by the flags of the undoing log, the log of the changes, the summary and pseudo-SQL: that of exactly one of the first
-- three, as pseudo-SQL where the last is there too; a summary has no such form
abbrev pub mode_of : Bool → Bool → Bool → Bool → Result Mode ModeFault
mode_of true false false false = Ok Flashback
mode_of true false false true = Ok FlashbackSql
mode_of false true false false = Ok Forward
mode_of false true false true = Ok ForwardSql
mode_of false false true false = Ok Summary
mode_of false false true true = Err SqlOfSummary
mode_of _ _ _ _ = Err NotOneMode

-- the mode that is asked for
abbrev pub asked_mode : Found → Result Mode ModeFault
asked_mode found = mode_of (is_given found (codes "flashback")) (is_given found (codes "forward")) (is_given found (codes "summary")) (is_given found (codes "sql"))

-- ---- runs

-- each part of the run is the value of its option; the start is 4 without one
pub record IsAsked (found : Found) (task : Task) : Type 0 where
  pub mode : asked_mode found ≡ Ok task.mode
  pub start : (position : Option ℕ) × IsPositionOf (first_value found (codes "start-position")) position × (task.selection.start ≡ unwrap_or position 4)
  pub stop : IsPositionOf (first_value found (codes "stop-position")) task.selection.stop
  pub database : option_map (λ name. name.now) task.selection.database ≡ first_value found (codes "database")
  pub table : option_map (λ name. name.now) task.selection.table ≡ first_value found (codes "table")
  pub result_file : option_map (λ path. path.now) task.result_file ≡ first_value found (codes "result-file")
  pub log : task.log.now ≡ unwrap_or (first_value found (codes "LOG")) []

-- why no run is asked for: a position is wrong, the flags choose no mode, or memory was refused
abbrev pub RefusesRun : {A : Type 0} → Found → ArgumentsFault A → Type 0
RefusesRun found (Wrong text) = IsWrongPosition (first_value found (codes "start-position")) ⊎ IsWrongPosition (first_value found (codes "stop-position"))
RefusesRun found (NoMode fault) = asked_mode found ≡ Err fault
RefusesRun found NotText = ⊥
RefusesRun found OutOfMemory = ⊤

-- ---- the parser's answer

-- what is asked for by it: the run by what it found, a text where that is its answer, and else the arguments are wrong or
-- memory was refused
abbrev pub IsRead : {A : Type 0} → Result ArgMatches Error → Result (Asked A) (ArgumentsFault A) → Type 0
IsRead (Ok matches) (Ok (Run task)) = IsAsked (found_of matches) task
IsRead (Ok matches) (Ok (Help text)) = ⊥
IsRead (Ok matches) (Err fault) = RefusesRun (found_of matches) fault
IsRead (Err error) (Ok (Run task)) = ⊥
IsRead (Err error) (Ok (Help text)) = AsksForText (kind_of error)
IsRead (Err error) (Err (Wrong text)) = ¬ (AsksForText (kind_of error))
IsRead (Err error) (Err (NoMode fault)) = ⊥
IsRead (Err error) (Err NotText) = ⊥
IsRead (Err error) (Err OutOfMemory) = ⊤
