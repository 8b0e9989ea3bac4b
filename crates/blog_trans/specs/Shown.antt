-- The events of a log that its groups have.
use Rattle.std.specs.Prelude.{ℕ, ◌+◌, ◌≤◌, ◌==◌, max, List, [], ◌∷◌, ◌++◌, length, take, map, sum_by, Contains}
use Rattle.std.specs.List.{flat_map, AllByRecursion, IsDistinct}
use Rattle.blog_event.specs.Event.{event_size}
use Rattle.blog_event.specs.File.{Placed, placed_from, end_of, read}
use Rattle.blog_trans.specs.Selection.{Selection}
use Rattle.blog_trans.specs.Acceptance.{range}
use Rattle.blog_trans.specs.Groups.{PlacedStatement, PlacedTransaction, placed_groups}

-- of a statement: its maps and its rows events
abbrev pub statement_shown : PlacedStatement → List Placed
statement_shown s = s.maps ++ map (λ r. r.event) s.rows

-- of a transaction: `BEGIN`, those of its statements, and its end event
abbrev pub transaction_shown : PlacedTransaction → List Placed
transaction_shown t = t.begin ∷ (flat_map statement_shown t.statements ++ t.end ∷ [])

-- of the groups of a log
unfoldable pub shown : List ℕ → Selection → List Placed
shown bytes sel = flat_map transaction_shown (placed_groups bytes sel)

-- the positions of these events
abbrev pub shown_positions : List ℕ → Selection → List ℕ
shown_positions bytes sel = map (λ p. p.pos) (shown bytes sel)

-- the greatest size of these events, or `least` where that is more
abbrev pub largest : ℕ → List Placed → ℕ
largest least [] = least
largest least (p ∷ ps) = largest (max least (event_size p.event)) ps

-- the events of a log's range
abbrev pub events_in_range : List ℕ → Selection → List Placed
events_in_range bytes sel = range sel (placed_from 4 (read bytes sel.stop))

-- The groups have events of the range, none of them twice, and so no more than that has. Their sizes and the position
-- behind the event at 4 add up to at most the length of the log.
pub record ShowsEachOnce (bytes : List ℕ) (sel : Selection) : Type 0 where
  pub within : AllByRecursion (Contains (events_in_range bytes sel)) (shown bytes sel)
  pub once : IsDistinct (λ a b. a == b) (shown_positions bytes sel)
  pub few : length (shown bytes sel) ≤ length (events_in_range bytes sel)
  pub sizes : end_of 4 (take 1 (read bytes sel.stop)) + sum_by (λ p. event_size p.event) (shown bytes sel) ≤ length bytes
