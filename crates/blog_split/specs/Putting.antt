-- Why a cut log isn't made, which may have at most 4,294,967,295 bytes.
use Rattle.std.specs.Prelude.{◌≡◌, ℕ, ◌<◌}
use Rattle.blog_event.specs.declared.fault.Fault.TheVariants.{OutOfMemory}
use Rattle.blog_split.specs.declared.fault.SplitFault.{SplitFault}
use Rattle.blog_split.specs.declared.fault.SplitFault.TheVariants.{Log, TooLong}

-- why a log isn't made that would end there: memory was refused, or it would be too long
abbrev pub Refuses : ℕ → SplitFault → Type 0
Refuses end (Log f) = f ≡ OutOfMemory
Refuses end TooLong = 4294967295 < end
