-- What a contract sees of a log in which groups are gathered.
use Rattle.std.specs.Prelude.{◌≡◌, ℕ, ◌<◌, ⊤, List, [], ◌∷◌, ◌++◌, length, Result, Ok, Err}
use Rattle.std.specs.List.{AllByRecursion}
use Rattle.blog_trans.specs.declared.groups.Index.{Index}
use Rattle.blog_trans.specs.code.IndexView.{index_bytes, index_selection}
use Rattle.blog_gathered.specs.Gathered.{IsSoundRange, Range, gathered_text}
use Rattle.blog_gathered.specs.declared.fault.GatherFault.{GatherFault}
use Rattle.blog_gathered.specs.declared.fault.GatherFault.TheVariants.{OutOfMemory, TooLong}
use Rattle.blog_gathered.specs.declared.gathered.Gathered.{Gathered}

-- its bytes
abbrev pub bytes_gathered : {A : Type 0} → Gathered A → List ℕ
bytes_gathered gathered = gathered.bytes.items

-- the range of an index
abbrev pub range_of : {A : Type 0} → Index A → Range
range_of index = record { bytes = index_bytes index; sel = index_selection index }

-- the groups of ranges are gathered there, which are accepted, as is the one that gave the format description
pub record IsGathered {A : Type 0} (first : Range) (rs : List Range) (gathered : Gathered A) : Type 0 where
  pub text : bytes_gathered gathered ≡ gathered_text first rs
  pub first_sound : IsSoundRange first
  pub sound : AllByRecursion IsSoundRange rs

-- those of one more range are; or the log would be too long, or memory was refused, and all is as it was
abbrev pub Adds : {A : Type 0} → Range → List Range → Range → Gathered A → Result ⊤ GatherFault → Type 0
Adds first rs r new (Ok _) = IsGathered first (rs ++ r ∷ []) new
Adds first rs r new (Err OutOfMemory) = IsGathered first rs new
Adds first rs r new (Err TooLong) = IsGathered first rs new × (4294967295 < length (gathered_text first (rs ++ r ∷ [])))
