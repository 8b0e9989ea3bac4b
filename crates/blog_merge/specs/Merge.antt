-- Changes in their order, of which some are a mistake: what rows would be without it, and what then remains to be updated.
use Rattle.std.specs.Prelude.{Bool, true, false, not, ◌&&◌, if◌then◌else◌, List, [], ◌∷◌, ◌++◌, filter, map, reverse, Option, Some, None, is_none, option_map}
use Rattle.std.specs.List.{cons_option, filter_map, list_all}
use Rattle.blog_row.specs.Image.{Row}
use Rattle.blog_trans.specs.Changes.{Change, Inserted, Deleted, Updated}
use Rattle.blog_flash.specs.States.{is_same_value}
use Rattle.blog_undo.specs.Mixed.{Marked, TableRow}
use Rattle.blog_merge.specs.Pairs.{Pair, put, real_row, without, would_be}

-- ---- one row

-- An update made to another row: a column that the update changes gets the new value, and every other column is kept. Columns that
-- the row before the update or the other row doesn't have are the update's.
abbrev pub merged : Row → Row → Row → Row
merged (a ∷ before) (b ∷ after) (c ∷ other) = (if is_same_value a b then c else b) ∷ merged before after other
merged [] after other = after
merged (a ∷ before) [] other = []
merged (a ∷ before) (b ∷ after) [] = b ∷ after

-- ---- one change

-- a selected change makes a difference between what is and what would be
abbrev pub pairs_by_selected : Change → List Pair → List Pair
pairs_by_selected (Inserted t r) ps = ps ++ record { table = t; real = r; would = None } ∷ []
pairs_by_selected (Updated t r new) ps = put t r (record { table = t; real = new; would = would_be t r ps }) ps
pairs_by_selected (Deleted t r) ps = ps

-- a later change of others is made to what is and to what would be
abbrev pub pairs_by_later : Change → List Pair → List Pair
pairs_by_later (Inserted t r) ps = ps
pairs_by_later (Updated t r new) ps = put t r (record { table = t; real = new; would = option_map (merged r new) (would_be t r ps) }) ps
pairs_by_later (Deleted t r) ps = without t r ps

-- the pairs after a change
abbrev pub pairs_by : Marked → List Pair → List Pair
pairs_by m ps = if m.selected then pairs_by_selected m.change ps else pairs_by_later m.change ps

-- a later change of others as it would be; nothing if its row wouldn't be there
abbrev pub later_would_be : Change → List Pair → Option Change
later_would_be (Inserted t r) ps = Some (Inserted t r)
later_would_be (Updated t r new) ps = option_map (λ w. Updated t w (merged r new w)) (would_be t r ps)
later_would_be (Deleted t r) ps = option_map (Deleted t) (would_be t r ps)

-- a selected change wouldn't be made
abbrev pub change_would_be : Marked → List Pair → Option Change
change_would_be m ps = if m.selected then None else later_would_be m.change ps

-- ---- all of them

-- from the first change to the last
abbrev pub pairs_after : List Pair → List Marked → List Pair
pairs_after ps [] = ps
pairs_after ps (m ∷ ms) = pairs_after (pairs_by m ps) ms

-- the differences that the selected changes make in the end
abbrev pub pairs_of : List Marked → List Pair
pairs_of ms = pairs_after [] ms

abbrev pub rebased_after : List Pair → List Marked → List Change
rebased_after ps [] = []
rebased_after ps (m ∷ ms) = cons_option (change_would_be m ps) (rebased_after (pairs_by m ps) ms)

-- the changes of others as they would be without the selected ones
abbrev pub rebased : List Marked → List Change
rebased ms = rebased_after [] ms

-- ---- what a merge isn't for

abbrev pub is_delete : Change → Bool
is_delete (Inserted t r) = false
is_delete (Deleted t r) = true
is_delete (Updated t before after) = false

-- No selected change is a delete. (It leaves no row that a later change could take, so it can always be undone.)
abbrev pub has_no_selected_delete : List Marked → Bool
has_no_selected_delete ms = list_all (λ m. not (m.selected && is_delete m.change)) ms

-- ---- what is written, and what is left

-- the update of a row to what it would be
abbrev pub update_of : Pair → Option Change
update_of p = option_map (Updated p.table p.real) p.would

-- the updates of rows to what they would be, that of the last pair first
abbrev pub updates_of : List Pair → List Change
updates_of ps = reverse (filter_map update_of ps)

-- the rows that wouldn't be there; they stay
abbrev pub staying : List Pair → List TableRow
staying ps = map real_row (filter (λ p. is_none p.would) ps)
