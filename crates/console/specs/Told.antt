-- What the parser of arguments answers in place of matches.
use Rattle.std.specs.Prelude.{◌≡◌, ◌⊎◌}
use Rattle.clap.specs.declared.error.kind.ErrorKind.{ErrorKind}
use Rattle.clap.specs.declared.error.kind.ErrorKind.TheVariants.{DisplayHelp, DisplayVersion}
use Rattle.console.specs.declared.arguments.Told.{Told}
use Rattle.console.specs.declared.arguments.Told.TheVariants.{Asked, Wrong}

-- it is the help, or the version
abbrev pub AsksForText : ErrorKind → Type 0
AsksForText kind = (kind ≡ DisplayHelp) ⊎ (kind ≡ DisplayVersion)

-- a text that was asked for is the help or the version, and any other tells what is wrong
abbrev pub IsTold : {A : Type 0} → ErrorKind → Told A → Type 0
IsTold kind (Asked text) = AsksForText kind
IsTold kind (Wrong text) = ¬ (AsksForText kind)
