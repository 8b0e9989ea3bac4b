-- What is gone from the rest was appended, and no write failed.
use Rattle.std.proofs.Common.{◌≡◌, ℕ, List, ◌++◌, length}
use Rattle.std.specs.Io.KnownBytes.{Appends}
use Rattle.blog_device.specs.Watched.{device_of, has_failed}
use Rattle.blog_device.proofs.writing.put_part.Given as goal

abbrev pub invariant-loop-rest : goal.invariant-loop-rest
invariant-loop-rest g l = record {
  mark : has_failed l.writer ≡ has_failed l.initial.writer;
  bytes : (done : List ℕ) × (l.initial.rest ≡ done ++ l.rest)
      × Appends (g.W.Write.contents (device_of l.initial.writer)) (g.W.Write.contents (device_of l.writer)) done;
}

abbrev pub decreases-loop-rest : goal.decreases-loop-rest
decreases-loop-rest g l = length l.rest
