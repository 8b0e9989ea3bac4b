-- What is known of events that passed their checks.
use Rattle.std.proofs.Common.{arith, ◌≡◌, true, List, [], ◌∷◌, ◌++◌, reverse, Option, Some, None, is_some, ap, ◌∙◌, append_assoc, rules}
use Rattle.std.proofs.lemmas.List.{reverse-append}
use Rattle.blog_event.specs.Fault.{Cause, first_failing}
use Rattle.blog_event.specs.File.{Placed}
use Rattle.blog_row.specs.RowsEvent.{table_id}
use Rattle.blog_row.specs.declared.event_kinds.EventKind.{EventKind}
use Rattle.blog_row.specs.declared.event_kinds.EventKind.TheVariants as kind
use Rattle.blog_row.specs.Kinds.{is_begin_kind}
use Rattle.blog_trans.specs.Selection.{Selection}
use Rattle.blog_trans.specs.Places.{is_rows, since, map_in}
use Rattle.blog_trans.specs.Acceptance.{is_selected, event_fault}
use Rattle.blog_trans.specs.Groups.{kept_rows}

-- ---- events in both orders

-- the latest comes last in file order
pub reverse-latest : {A : Type 0} (x : A) (xs : List A) → reverse (x ∷ xs) ≡ reverse xs ++ x ∷ []
reverse-latest x xs = reverse-append (x ∷ []) xs

-- what follows it follows the others behind it
pub reverse-behind : {A : Type 0} (x : A) (xs ys : List A) → reverse (x ∷ xs) ++ ys ≡ reverse xs ++ x ∷ ys
reverse-behind x xs ys = ap (λ l. l ++ ys) (reverse-latest x xs) ∙ append_assoc (reverse xs) (x ∷ []) ys

-- ---- checks

-- the first check finds nothing, and no other does
pub first-passed : (check : Option Cause) (others : List (Option Cause)) → first_failing (check ∷ others) ≡ None → (check ≡ None) × (first_failing others ≡ None)
first-passed check others e = search rules

-- the kind of a `BEGIN`
pub begin-kind : (k : EventKind) → is_begin_kind k ≡ true → k ≡ kind.Begin
begin-kind k e = search rules

-- ---- rows events

-- what is known of a rows event that passed: it has a map among the statement's events so far, and is kept if its table is selected
pub record IsChecked (sel : Selection) (statement : List Placed) (p : Placed) : Type 0 where
  pub found : is_some (map_in (reverse statement) (table_id p.event.body)) ≡ true
  pub kept : (m : Placed) → map_in (reverse statement) (table_id p.event.body) ≡ Some m → is_selected sel m.event.body ≡ true
      → is_some (kept_rows sel (reverse statement) p) ≡ true

-- a rows event that passed was checked
pub rows-checked : (sel : Selection) (earlier : List Placed) (p : Placed) → event_fault sel earlier p ≡ None → is_rows p ≡ true → IsChecked sel (since earlier) p
rows-checked sel earlier p passed is_one = record { found = grind arith; kept = λ m found selected. grind arith }
