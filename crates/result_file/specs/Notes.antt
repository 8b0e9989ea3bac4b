-- What a clause reads of a writer that keeps causes.
use Rattle.std.specs.Prelude.{Option}
use Rattle.std.specs.declared.io.Error.{Error}
use Rattle.result_file.specs.declared.noted.Noted.{Noted}

-- `noted.cause()`
abbrev pub cause_of : {W : Type 0} → Noted W → Option Error
cause_of noted = noted.cause
