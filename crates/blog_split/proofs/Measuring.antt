-- The most that a statement of a log has, statement by statement and transaction by transaction.
use Rattle.std.proofs.Common.{◌≡◌, ℕ, suc, ◌+◌, ◌<◌, ◌≤◌, Bool, true, false, List, [], ◌∷◌, length, map, reverse, Option, Some, IsSome, option_map, slice_get, refl, ap, ◌∙◌, sym, subst, arith}
use Rattle.std.specs.List.{AllByRecursion}
use Rattle.std.specs.Prelude.{nat_eq, option_and_then}
use Rattle.std.proofs.lemmas.Option.{same_Some}
use Rattle.std.proofs.lemmas.Bool.{eqb-true, eqb-false}
use Rattle.std.proofs.lemmas.List.{length-map, length-reverse}
use Rattle.blog_event.specs.Event.{Event}
use Rattle.blog_row.specs.declared.order.Order.{Order}
use Rattle.blog_row.specs.declared.order.Order.TheVariants.{Forward, Backward}
use Rattle.blog_row.proofs.ReversedRows.{all-reverse}
use Rattle.blog_trans.proofs.PlacedParts.{all-map}
use Rattle.blog_flash.specs.Reversal.{reversed_rows, reversed_statement, reversed_transaction}
use Rattle.blog_flash.specs.code.LaidOut.{groups_in}
use Rattle.blog_flash.proofs.Formed.{AreGroups}
use Rattle.blog_flash.proofs.Forming.{groups-reversed}
use Rattle.blog_trans.specs.Groups.{PlacedStatement, PlacedTransaction, Statement, Transaction, event_value, rows_value, statement_value, transaction_value}
use Rattle.blog_trans.specs.code.IndexView.{statement_at}
use Rattle.blog_split.specs.declared.most.Most.{Most}
use Rattle.blog_split.specs.code.Sizes.{IsAmongMost}
use Rattle.blog_split.proofs.CutWritten.{HasAtMost}
use Rattle.blog_split.proofs.MapIds.{at-some}

-- ---- by number

pub some-from : {A : Type 0} (o : Option A) (x : A) → o ≡ Some x → IsSome o
some-from o x is = subst IsSome (sym is) refl

-- how many rows events it has
pub rows-counted : (o : Option PlacedStatement) (y : PlacedStatement) (n : ℕ) → o ≡ Some y → option_map (λ x. length x.rows) o ≡ Some n → length y.rows ≡ n
rows-counted o y n is counted = same_Some (length y.rows) n (sym (ap (option_map (λ x. length x.rows)) is) ∙ counted)

-- and how many maps
pub maps-counted : (o : Option PlacedStatement) (y : PlacedStatement) (n : ℕ) → o ≡ Some y → option_map (λ x. length x.maps) o ≡ Some n → length y.maps ≡ n
maps-counted o y n is counted = same_Some (length y.maps) n (sym (ap (option_map (λ x. length x.maps)) is) ∙ counted)

-- how many statements a transaction has
pub statements-counted : (o : Option PlacedTransaction) (x : PlacedTransaction) (n : ℕ) → o ≡ Some x → option_map (λ x. length x.statements) o ≡ Some n → length x.statements ≡ n
statements-counted o x n is counted = same_Some (length x.statements) n (sym (ap (option_map (λ x. length x.statements)) is) ∙ counted)

-- a statement of a transaction
pub statement-here : (ts : List PlacedTransaction) (t s : ℕ) (x : PlacedTransaction) → slice_get ts t ≡ Some x → statement_at ts t s ≡ slice_get x.statements s
statement-here ts t s x is = ap (option_and_then (λ x. slice_get x.statements s)) is

-- there is the statement of a number below how many it has
pub statement-there : (ts : List PlacedTransaction) (t s : ℕ) (x : PlacedTransaction) → slice_get ts t ≡ Some x → s < length x.statements
    → (y : PlacedStatement) × (statement_at ts t s ≡ Some y) × (slice_get x.statements s ≡ Some y)
statement-there ts t s x is below = let y = at-some x.statements s below in (y.0, statement-here ts t s x is ∙ y.1, y.1)

-- what holds below a number and at it holds below the next
pub below-next : (P : ℕ → Type 0) (n : ℕ) → ((k : ℕ) → k < n → P k) → P n → (k : ℕ) → k < n + 1 → P k
below-next P n before here k below = by_case (nat_eq k n) refl
  where
    by_case : (b : Bool) → nat_eq k n ≡ b → P k
    by_case true is = subst P (sym (eqb-true k n is)) here
    by_case false is = before k (omega (arith, below, eqb-false k n is))

pub among-more : (before after : Most) (y : PlacedStatement) → before.maps ≤ after.maps → before.rows ≤ after.rows → IsAmongMost before y → IsAmongMost after y
among-more before after y maps rows h = record { maps = omega (arith, maps, h.maps); rows = omega (arith, rows, h.rows) }

-- ---- as values

statements-among : (most : Most) (ss : List PlacedStatement) → ((s : ℕ) (y : PlacedStatement) → slice_get ss s ≡ Some y → IsAmongMost most y) → AllByRecursion (HasAtMost most) (map statement_value ss)
statements-among most [] among = tt
statements-among most (y ∷ ss) among =
    let own = among 0 y refl in
    ((omega (arith, own.maps, length-map y.maps event_value), omega (arith, own.rows, length-map y.rows rows_value)), statements-among most ss (λ s z at. among (suc s) z at))

pub groups-among : (most : Most) (ts : List PlacedTransaction) → ((t s : ℕ) (y : PlacedStatement) → statement_at ts t s ≡ Some y → IsAmongMost most y)
    → AllByRecursion (λ (t : Transaction). AllByRecursion (HasAtMost most) t.statements) (map transaction_value ts)
groups-among most [] among = tt
groups-among most (x ∷ ts) among = (statements-among most x.statements (λ s y at. among 0 s y at), groups-among most ts (λ t s y at. among (suc t) s y at))

-- ---- in either order

-- what holds of the elements, each changed and in reverse order
all-turned : {A : Type 0} (P : A → Type 0) (f : A → A) → ((x : A) → P x → P (f x)) → (xs : List A) → AllByRecursion P xs → AllByRecursion P (reverse (map f xs))
all-turned P f by xs all = all-reverse P (map f xs) (all-map P P f by xs all)

statement-turned : (most : Most) (s : Statement) → HasAtMost most s → HasAtMost most (reversed_statement s)
statement-turned most s few = (few.0, omega (arith, few.1, length-reverse (map reversed_rows s.rows), length-map s.rows reversed_rows))

-- the groups that are written have no more
pub most-in-order : (order : Order) (most : Most) (ts : List Transaction) → AllByRecursion (λ (t : Transaction). AllByRecursion (HasAtMost most) t.statements) ts
    → AllByRecursion (λ (t : Transaction). AllByRecursion (HasAtMost most) t.statements) (groups_in order ts)
most-in-order Forward most ts few = few
most-in-order Backward most ts few =
    all-turned (λ (t : Transaction). AllByRecursion (HasAtMost most) t.statements) reversed_transaction (λ t own. all-turned (HasAtMost most) reversed_statement (statement-turned most) t.statements own) ts few

-- and are well-formed
pub groups-in-order : (order : Order) (Known : Event → Type 0) (ts : List Transaction) → AreGroups Known ts → AreGroups Known (groups_in order ts)
groups-in-order Forward Known ts are = are
groups-in-order Backward Known ts are = groups-reversed Known ts are
