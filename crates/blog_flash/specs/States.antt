-- The rows of tables, what changes do to them, and the changes that undo it (MariaDB Knowledge Base, "Flashback").
use Rattle.std.specs.Prelude.{ℕ, ◌+◌, ◌-◌, Bool, true, false, ◌&&◌, if◌then◌else◌, List, [], ◌∷◌, map, reverse, Option, Some, None, option_and_then, ◌==◌, bytes_eq}
use Rattle.std.specs.Cmp.Lexicographic.{pointwise}
use Rattle.blog_row.specs.Image.{Row}
use Rattle.blog_row.specs.TableMap.{Table}
use Rattle.blog_trans.specs.Acceptance.{is_same_table}
use Rattle.blog_trans.specs.Changes.{Change, Inserted, Deleted, Updated}

-- How many copies each table has of each row. (A table of a server has finitely many rows; nothing here needs it.)
abbrev pub State : Type 0
State = Table → Row → ℕ

abbrev pub is_same_value : Option (List ℕ) → Option (List ℕ) → Bool
is_same_value None None = true
is_same_value None (Some y) = false
is_same_value (Some x) None = false
is_same_value (Some x) (Some y) = bytes_eq x y

abbrev pub is_row : Table → Row → Table → Row → Bool
is_row t r u s = is_same_table t u && pointwise is_same_value r s

-- the state with another number of copies of one row
abbrev pub with_copies : State → Table → Row → ℕ → State
with_copies state t r n u s = if is_row t r u s then n else state u s

abbrev pub insert_row : Table → Row → State → State
insert_row t r state = with_copies state t r (state t r + 1)

-- None is a fault: there is no copy to take
abbrev pub delete_row : Table → Row → State → Option State
delete_row t r state = if state t r == 0 then None else Some (with_copies state t r (state t r - 1))

abbrev pub apply : Change → State → Option State
apply (Inserted t r) state = Some (insert_row t r state)
apply (Deleted t r) state = delete_row t r state
apply (Updated t before after) state = option_and_then (λ left. Some (insert_row t after left)) (delete_row t before state)

-- one change after the other; a fault anywhere is a fault of the list
abbrev pub apply_all : List Change → State → Option State
apply_all [] state = Some state
apply_all (c ∷ cs) state = option_and_then (apply_all cs) (apply c state)

abbrev pub inverse : Change → Change
inverse (Inserted t r) = Deleted t r
inverse (Deleted t r) = Inserted t r
inverse (Updated t before after) = Updated t after before

abbrev pub inverse_all : List Change → List Change
inverse_all cs = reverse (map inverse cs)
