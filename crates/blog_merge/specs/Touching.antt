-- Changes of others that make no difference to pairs: those that take no row which a selected change left, nor one which a change of others
-- left that took such a row. Rows are told by fingerprints, so some that make no difference may be among the others.
use Rattle.std.specs.Prelude.{◌≡◌, ℕ, Bool, if◌then◌else◌, List, [], ◌∷◌, Option, option_map}
use Rattle.std.specs.List.{cons_option}
use Rattle.blog_trans.specs.Changes.{Change}
use Rattle.blog_undo.specs.ByRows.{has_print_among}
use Rattle.blog_undo.specs.Mixed.{Marked, TableRow, leaves, takes}
use Rattle.blog_undo.specs.Part.{SelectsWithin}
use Rattle.blog_merge.specs.Laws.{outside_of}
use Rattle.blog_merge.specs.Merge.{pairs_of}

-- with the fingerprint of the row that a change leaves
abbrev pub with_left : (TableRow → ℕ) → Change → List ℕ → List ℕ
with_left f c prints = cons_option (option_map f (leaves c)) prints

-- the changes outside of a part, without those of others that take no row with one of the fingerprints of rows that were left before
abbrev pub outside_touching : (TableRow → ℕ) → List ℕ → List Marked → List Marked → List Marked
outside_touching f prints (p ∷ part) (m ∷ ms) =
    if m.selected then (if p.selected then outside_touching f (with_left f m.change prints) part ms else m ∷ outside_touching f (with_left f m.change prints) part ms)
    else (if has_print_among f (takes m.change) prints then m ∷ outside_touching f (with_left f m.change prints) part ms else outside_touching f prints part ms)
outside_touching f prints [] ms = []
outside_touching f prints (p ∷ part) [] = []

-- they have the same pairs as all changes outside of the part
abbrev pub HaveSamePairs : (TableRow → ℕ) → List Marked → List Marked → Type 0
HaveSamePairs f part ms = SelectsWithin part ms → pairs_of (outside_touching f [] part ms) ≡ pairs_of (outside_of part ms)
