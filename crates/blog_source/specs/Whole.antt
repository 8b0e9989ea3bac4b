-- Logs that are read to their end.
use Rattle.std.specs.Prelude.{◌≡◌, ℕ, false, List, [], ◌∷◌, drop, Option}
use Rattle.std.specs.List.{AllByRecursion}
use Rattle.blog_event.specs.Event.{Event}
use Rattle.blog_event.specs.Fault.{first_failing}
use Rattle.blog_sum.specs.declared.fault.SumFault.{SumFault}
use Rattle.blog_source.specs.Found.{begins_encryption, found_of, source_refusal}
use Rattle.blog_source.specs.Laws.{whole_reading}

-- why a log isn't read to its end: it isn't opened, or the reading ends before
unfoldable pub reading_fault : List ℕ → Option SumFault
reading_fault bytes = first_failing (source_refusal bytes ∷ (found_of whole_reading bytes).fault ∷ [])

-- nothing is encrypted behind any of the events that are read
abbrev pub NoneEncrypted : List Event → Type 0
NoneEncrypted es = AllByRecursion (λ e. begins_encryption e ≡ false) (drop 1 es)
