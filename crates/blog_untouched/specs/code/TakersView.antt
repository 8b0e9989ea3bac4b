-- What is known of the changes that aren't kept, after some selected ones.
use Rattle.std.specs.Prelude.{◌≡◌, ◌<◌, ◌≤◌, ◌+◌, ℕ, Bool, if◌then◌else◌, List, [], ◌∷◌, ◌++◌, Option, Some, None, map, drop, length, nat_eq, is_some, slice_get}
use Rattle.std.specs.List.{AllByRecursion, cons_option, list_any}
use Rattle.indexmap.specs.IndexMap.{IndexMap, get}
use Rattle.blog_untouched.specs.Rows.{IsNoLater, Takes, print_taken}
use Rattle.blog_untouched.specs.declared.rows.SelectedRow.{SelectedRow}
use Rattle.blog_untouched.specs.declared.rows.TakenRow.{TakenRow}
use Rattle.blog_untouched.specs.declared.rows.Taker.{Taker}
use Rattle.blog_untouched.specs.declared.rows.Taker.TheVariants.{Selected, Other}

-- the fingerprints of the rows that selected changes take which aren't kept
abbrev pub prints_left_out : List SelectedRow → List Bool → List ℕ
prints_left_out [] marks = []
prints_left_out (row ∷ rows) [] = []
prints_left_out (row ∷ rows) (kept ∷ marks) = if kept then prints_left_out rows marks else cons_option (print_taken row) (prints_left_out rows marks)

-- those of all changes that aren't kept
abbrev pub prints_outside : List TakenRow → List SelectedRow → List Bool → List ℕ
prints_outside taken rows marks = map (λ t. t.print) taken ++ prints_left_out rows marks

-- the takers are the changes of the taken rows from the place `first` on, and the selected changes from the number `after` on that aren't kept
pub record AreTakers {S : Type 0} (rows : List SelectedRow) (taken : List TakenRow) (marks : List Bool) (after first : ℕ) (takers : IndexMap ℕ Taker S) : Type 0 where
  pub within : first ≤ length taken
  pub later : AllByRecursion (λ t. after ≤ t.before) (drop first taken)
  pub found : (print : ℕ) → is_some (get nat_eq takers print) ≡ list_any (nat_eq print) (prints_outside (drop first taken) (drop after rows) (drop after marks))
  pub take : (print : ℕ) (by_taker : Taker) → get nat_eq takers print ≡ Some by_taker → Takes rows taken marks after print by_taker

-- at most `row` selected changes come before the change that takes the last row before the place `first`
abbrev pub EndsAt : List TakenRow → ℕ → ℕ → Type 0
EndsAt taken row first = (n : ℕ) (t : TakenRow) → n + 1 ≡ first → slice_get taken n ≡ Some t → t.before ≤ row

-- it is selected, or it takes one of the rows from the place `first` on
abbrev pub IsIn : ℕ → Taker → Type 0
IsIn first (Selected n) = Unit
IsIn first (Other n) = first ≤ n

-- of the takers of a row, the first is found; at most `after` selected changes come before those that take the rows before the place `first`
pub record AreFirst {S : Type 0} (rows : List SelectedRow) (taken : List TakenRow) (marks : List Bool) (after first : ℕ) (takers : IndexMap ℕ Taker S) : Type 0 where
  pub upper : (n : ℕ) (t : TakenRow) → n < first → slice_get taken n ≡ Some t → t.before ≤ after
  pub next : (print : ℕ) (t u : Taker) → get nat_eq takers print ≡ Some t → Takes rows taken marks after print u → IsIn first u → IsNoLater taken t u

-- the taker of a row with a fingerprint is put in, if there is such a row
abbrev pub Adds : {S : Type 0} → IndexMap ℕ Taker S → Option ℕ → Taker → IndexMap ℕ Taker S → Type 0
Adds old None by_taker new = new ≡ old
Adds old (Some print) by_taker new = (q : ℕ) → get nat_eq new q ≡ (if nat_eq print q then Some by_taker else get nat_eq old q)
