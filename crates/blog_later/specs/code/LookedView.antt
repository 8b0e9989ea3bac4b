-- What was seen of units, and the fingerprints that are kept.
use Rattle.std.specs.Prelude.{◌≡◌, ℕ, Bool, List, filter, length}
use Rattle.blog_choice.specs.Choice.{Choice}
use Rattle.blog_units.specs.Units.{Facts}
use Rattle.blog_later.specs.Among.{from_first, others_of, touches_by}
use Rattle.blog_later.specs.Prints.{Left, prints_before}
use Rattle.blog_later.specs.Later.{is_accepted, is_apart, may_concern}
use Rattle.blog_later.specs.code.Counted.{at_most, starts}
use Rattle.blog_later.specs.declared.left.LeftRows.{LeftRows}
use Rattle.blog_later.specs.declared.looked.Looked.{Looked}

-- those that are kept of the first k lists of changes
abbrev pub left_before : {A : Type 0} → LeftRows A → ℕ → Left
left_before left k = record { rows = prints_before k left.rows.items; tables = left.tables.items }

-- what is seen of these units of a log, after changes of chosen tables, of which so many left rows are taken
pub record AreSeen {A : Type 0} (choice : Choice) (bytes : List ℕ) (us : List Facts) (n : ℕ) (looked : Looked A) : Type 0 where
  pub units : looked.units ≡ at_most (length (filter (is_accepted bytes) us))
  pub touched : looked.touched ≡ at_most n
  pub unknown : looked.unknown.items ≡ starts (filter (may_concern choice bytes) us)
  pub apart : looked.apart.items ≡ starts (filter (is_apart choice bytes) us)

-- what is seen of units of which some are chosen: of the others after the first chosen one
abbrev pub LooksAmong : {A : Type 0} → (ℕ → Left) → (Facts → Bool) → Choice → List ℕ → List Facts → Looked A → Type 0
LooksAmong lefts p choice bytes us looked = AreSeen choice bytes (others_of p (from_first p us)) (touches_by lefts p bytes 0 (from_first p us)) looked
