-- Changes without those selected ones that are undone by themselves.
use Rattle.std.specs.Prelude.{Bool, if◌then◌else◌, List, [], ◌∷◌}
use Rattle.blog_undo.specs.Mixed.{Marked}

-- Changes without the selected ones whose mark is true. There is a mark for each selected change, in order; one without a mark stays.
abbrev pub outside_by : List Bool → List Marked → List Marked
outside_by marks [] = []
outside_by [] (m ∷ ms) = m ∷ ms
outside_by (mark ∷ marks) (m ∷ ms) = if m.selected then (if mark then outside_by marks ms else m ∷ outside_by marks ms) else m ∷ outside_by (mark ∷ marks) ms
