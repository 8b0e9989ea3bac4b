-- The progress over the events so far: its open transaction, and that what it keeps and what is left give the groups.
use Rattle.std.proofs.Common.{◌≡◌, ℕ, ◌+◌, ◌≤◌, true, false, not, List, [], ◌∷◌, ◌++◌, reverse, find, Option, Some, None, is_some, option_and_then, refl, ap, ◌∙◌, append-nil, arith}
use Rattle.std.specs.List.{filter_map, list_any}
use Rattle.blog_event.specs.File.{Placed}
use Rattle.blog_event.specs.Format.{front_while}
use Rattle.blog_row.specs.RowsEvent.{has_end_flag}
use Rattle.blog_trans.specs.Selection.{Selection}
use Rattle.blog_trans.specs.Places.{is_begin, is_end, is_rows, is_last_rows, place, is_inside, since}
use Rattle.blog_trans.specs.Groups.{PlacedRows, PlacedStatement, PlacedTransaction, cons_if, statements_of, kept_rows, statement_if, kept_statement, transaction_if, placed_groups_in}
use Rattle.blog_trans.specs.code.Progress.{Open, Progress, appended_if, with_rows, advance, progress}
use Rattle.blog_trans.specs.Acceptance.{HavePassed, event_fault}
use Rattle.blog_trans.proofs.ProgressSteps.{reverse-behind}
use Rattle.blog_trans.proofs.ProgressRows.{AreChecked, kept_so_far, kept-before, no-rows-kept, none-kept, statement-keeps, with-checked}
use Rattle.blog_trans.proofs.Sums.{sum_of, sum-reverse}
use Rattle.blog_trans.proofs.Apart.{transaction_sum, open_sum, statement-fits, transaction-fits}
use Rattle.blog_trans.proofs.StatementCuts.{since-no-last, cut-none, cut-last}

-- ---- what is still to come

-- the open transaction, if it has an end among what is left. `statement` has the events of the open statement, the latest first
abbrev pub coming : Selection → Placed → List PlacedStatement → List Placed → List Placed → Option PlacedTransaction
coming sel begin statements statement left =
    option_and_then (λ end. transaction_if (record { begin = begin; inside = []; end = end })
    (statements ++ filter_map (kept_statement sel) (statements_of (reverse statement ++ front_while (λ x. not (is_end x)) left)))) (find is_end left)

-- the open transaction and those of what is left
abbrev pub groups_left : Selection → List Placed → Option Open → List Placed → List PlacedTransaction
groups_left sel statement None left = placed_groups_in sel left
groups_left sel statement (Some o) left = cons_if (coming sel o.begin o.statements statement left) (placed_groups_in sel left)

-- ---- one more event

-- it goes on with the open statement, if it ends no transaction
coming-on : (sel : Selection) (begin : Placed) (statements : List PlacedStatement) (statement left : List Placed) (p : Placed) → is_end p ≡ false
    → coming sel begin statements statement (p ∷ left) ≡ coming sel begin statements (p ∷ statement) left
coming-on sel begin statements statement left p no_end = rw (no_end, reverse-behind p statement (front_while (λ x. not (is_end x)) left)) refl

-- what a `BEGIN` begins
begins-groups : (sel : Selection) (p : Placed) (left : List Placed) → is_begin p ≡ true
    → placed_groups_in sel (p ∷ left) ≡ cons_if (coming sel p [] [] left) (placed_groups_in sel left)
begins-groups sel p left is = grind arith

-- what the end of a transaction ends
coming-end : (sel : Selection) (begin : Placed) (statements : List PlacedStatement) (earlier left : List Placed) (p : Placed) → is_end p ≡ true
    → coming sel begin statements (since earlier) (p ∷ left) ≡ transaction_if (record { begin = begin; inside = []; end = p }) statements
coming-end sel begin statements earlier left p is = rw (is, cut-none (since earlier) [] (since-no-last earlier) refl, append-nil statements) refl

-- what the last rows event of a statement ends
coming-last : (sel : Selection) (begin : Placed) (statements : List PlacedStatement) (earlier left : List Placed) (p : Placed) (kept : List PlacedRows) → is_end p ≡ false → is_last_rows p ≡ true
    → kept ≡ filter_map (kept_rows sel (reverse (p ∷ since earlier))) (reverse (p ∷ since earlier))
    → coming sel begin statements (since earlier) (p ∷ left) ≡ coming sel begin (appended_if statements (statement_if (reverse (p ∷ since earlier)) kept)) [] left
coming-last sel begin statements earlier left p kept no_end is same =
    let rest = front_while (λ x. not (is_end x)) left in
    rw (no_end, cut-last earlier rest p is, same, kept-before statements (filter_map (kept_statement sel) (statements_of rest)) (kept_statement sel (reverse (p ∷ since earlier)))) refl

-- ---- the progress goes on

-- what the progress and the rest give
abbrev pub outcome : Selection → List Placed → Progress → List Placed → List PlacedTransaction
outcome sel statement k left = k.done ++ groups_left sel statement k.current left

-- ---- one more event

-- the statement goes on with a rows event without the end flag
pub since-rows : (earlier : List Placed) (p : Placed) → is_begin p ≡ false → has_end_flag p.event.body ≡ false → since (p ∷ earlier) ≡ p ∷ since earlier
since-rows earlier p no_begin no_flag = grind arith

-- a new one begins behind a rows event with the end flag
pub since-last : (earlier : List Placed) (p : Placed) → is_rows p ≡ true → has_end_flag p.event.body ≡ true → since (p ∷ earlier) ≡ []
since-last earlier p is flag = grind arith

-- the groups stay the same
goes-on : (sel : Selection) (earlier : List Placed) (p : Placed) (k : Progress) (left : List Placed) → event_fault sel earlier p ≡ None
    → is_some k.current ≡ is_inside (place earlier) → AreChecked sel (p ∷ since earlier)
    → ((o : Open) → k.current ≡ Some o → o.rows ≡ kept_so_far sel (since earlier))
    → outcome sel (since earlier) k (p ∷ left) ≡ outcome sel (since (p ∷ earlier)) (advance sel earlier p k) left
goes-on sel earlier p k left passed inside checked rows = grind (
  arith,
  begins-groups sel p left,
  λ (o : Open). coming-end sel o.begin o.statements earlier left p,
  λ (o : Open). coming-last sel o.begin o.statements earlier left p (with_rows (kept_rows sel (reverse (since earlier)) p) o).rows,
  λ (o : Open). coming-on sel o.begin o.statements (since earlier) left p,
  kept-before k.done (placed_groups_in sel left),
  statement-keeps sel (p ∷ since earlier) checked,
)

-- ---- all events so far

-- a transaction is open inside of one, and only there
pub open-inside : (sel : Selection) (earlier : List Placed) → HavePassed sel earlier → is_some (progress sel earlier).current ≡ is_inside (place earlier)
open-inside sel [] passed = refl
open-inside sel (p ∷ earlier) passed = grind (arith, open-inside sel earlier passed.1)

-- its kept rows events are those of the open statement, each kept as it came
pub open-kept : (sel : Selection) (earlier : List Placed) (o : Open) → HavePassed sel earlier → (progress sel earlier).current ≡ Some o → o.rows ≡ kept_so_far sel (since earlier)
open-kept sel [] o passed is = absurd (cc)
open-kept sel (p ∷ earlier) o passed is = grind (arith, no-rows-kept, λ (x : Open). open-kept sel earlier x passed.1)

-- none, where the open statement has no rows event
pub open-no-rows : (sel : Selection) (earlier : List Placed) (o : Open) → HavePassed sel earlier → (progress sel earlier).current ≡ Some o
    → list_any is_rows (since earlier) ≡ false → o.rows ≡ []
open-no-rows sel earlier o passed is none = open-kept sel earlier o passed is ∙ none-kept sel (since earlier) none

-- the progress and what is left give the groups
pub groups-follow : (sel : Selection) (earlier left : List Placed) → HavePassed sel earlier
    → placed_groups_in sel (reverse earlier ++ left) ≡ outcome sel (since earlier) (progress sel earlier) left
groups-follow sel [] left passed = refl
groups-follow sel (p ∷ earlier) left passed =
    ap (placed_groups_in sel) (reverse-behind p earlier left) ∙ groups-follow sel earlier (p ∷ left) passed.1
    ∙ goes-on sel earlier p (progress sel earlier) left passed.0 (open-inside sel earlier passed.1) (with-checked sel earlier p passed)
    (λ o. open-kept sel earlier o passed.1)

-- whatever number each event has, the sum over what is kept is no larger than that over the events
pub sums-fit : (sel : Selection) (earlier : List Placed) (w : Placed → ℕ) → HavePassed sel earlier
    → sum_of (transaction_sum w) (progress sel earlier).done + open_sum w (since earlier) (progress sel earlier).current ≤ sum_of w earlier
sums-fit sel [] w passed = omega arith
sums-fit sel (p ∷ earlier) w passed =
    let inside = open-inside sel earlier passed.1 in
    let rows = λ (o : Open). open-kept sel earlier o passed.1 in
    let kept = statement-keeps sel (p ∷ since earlier) (with-checked sel earlier p passed) in
    grind (arith, sums-fit sel earlier w passed.1, statement-fits, transaction-fits, sum-reverse w (p ∷ since earlier))
