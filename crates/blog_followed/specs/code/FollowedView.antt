-- What a contract sees of followed rows and of kept changes.
use Rattle.std.specs.Prelude.{◌≡◌, ℕ, Bool, if◌then◌else◌, List, [], ◌++◌}
use Rattle.blog_later.specs.Prints.{HavePrints, print_of}
use Rattle.blog_later.specs.code.LookedView.{left_before}
use Rattle.blog_later.specs.declared.left.LeftRows.{LeftRows}
use Rattle.blog_trans.specs.Changes.{Change}
use Rattle.blog_followed.specs.Following.{prints_touched, touching}
use Rattle.blog_followed.specs.code.KeptView.{bodies_of, changes_told}
use Rattle.blog_followed.specs.declared.followed.Followed.{Followed}
use Rattle.blog_followed.specs.declared.kept.KeptChanges.{KeptChanges}

-- the fingerprints of the rows that all lists left
abbrev pub all_left : {A : Type 0} → LeftRows A → List ℕ
all_left left = (left_before left 4294967295).rows

-- those of the rows that followed changes left
abbrev pub prints_in : {A : Type 0} → Followed A → List ℕ
prints_in followed = followed.prints.keys

-- of all rows that are followed
abbrev pub prints_told : {A : Type 0} → LeftRows A → Followed A → List ℕ
prints_told left followed = all_left left ++ prints_in followed

-- the changes that are kept
abbrev pub kept_in : {A : Type 0} → KeptChanges A → List Change
kept_in kept = changes_told (bodies_of kept.maps.items) kept.changes.items

abbrev pub kept_told : {A : Type 0} → Followed A → List Change
kept_told followed = kept_in followed.kept

-- changes of others are followed, and where they are to be kept those are that take followed rows
pub record Follows {A : Type 0} (keeps : Bool) (left : LeftRows A) (cs : List Change) (old new : Followed A) : Type 0 where
  pub prints : HavePrints (prints_touched print_of (prints_told left old) cs) (prints_told left new)
  pub kept : kept_told new ≡ kept_told old ++ (if keeps then touching print_of (prints_told left old) cs else [])
