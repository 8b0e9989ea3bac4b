-- Whether other changes touch selected ones, by the rows that the selected ones left so far.
use Rattle.std.specs.Prelude.{ℕ, Bool, true, false, not, ◌&&◌, if◌then◌else◌, List, [], ◌∷◌, Option, Some, None, nat_eq, option_map}
use Rattle.std.specs.List.{cons_option, list_any}
use Rattle.blog_undo.specs.Mixed.{Marked, TableRow, is_same_row, leaves, takes}

-- ---- by rows

-- a row is the same as one of these
abbrev pub is_among : Option TableRow → List TableRow → Bool
is_among r rows = list_any (λ s. is_same_row r (Some s)) rows

-- From the first change to the last: a selected one adds the row that it leaves, and another must not take one of these rows.
abbrev pub passes : List TableRow → List Marked → Bool
passes rows [] = true
passes rows (m ∷ ms) = if m.selected then passes (cons_option (leaves m.change) rows) ms else not (is_among (takes m.change) rows) && passes rows ms

-- ---- by fingerprints

-- the fingerprint of a row is one of these fingerprints
abbrev pub has_print_among : (TableRow → ℕ) → Option TableRow → List ℕ → Bool
has_print_among f None prints = false
has_print_among f (Some r) prints = list_any (nat_eq (f r)) prints

-- the same as `passes`, with the fingerprint of each row in its place
abbrev pub passes_by : (TableRow → ℕ) → List ℕ → List Marked → Bool
passes_by f prints [] = true
passes_by f prints (m ∷ ms) = if m.selected then passes_by f (cons_option (option_map f (leaves m.change)) prints) ms else not (has_print_among f (takes m.change) prints) && passes_by f prints ms
