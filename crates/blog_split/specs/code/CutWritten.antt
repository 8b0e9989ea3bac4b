-- Written events whose statements are cut, as they come: what is known of the open statement is what came before.
use Rattle.std.specs.Prelude.{◌≡◌, ℕ, ◌+◌, ◌<◌, ◌≤◌, Bool, true, false, nat_le, if◌then◌else◌, List, [], ◌∷◌, ◌++◌, length, map, filter, ⊤, bytes_eq}
use Rattle.std.specs.List.{IsDistinct}
use Rattle.blog_event.specs.Event.{Event}
use Rattle.blog_row.specs.RowsEvent.{table_id}
use Rattle.blog_trans.specs.Groups.{RowsEvent}
use Rattle.blog_flash.specs.Written.{Written, Same, Maps, Changes, rows_written}
use Rattle.blog_split.specs.Cuts.{is_used_by, piece_bytes}
use Rattle.blog_split.specs.declared.most.Most.{Most}

-- rows events of a statement with these maps, as a statement of their own; nothing where there are none
abbrev pub piece_written : List Event → List RowsEvent → List Written
piece_written maps piece = map Maps (filter (is_used_by piece) maps) ++ rows_written piece

-- a piece takes its first rows event whatever its size, and others as long as they have at most `limit` bytes with their maps
abbrev pub has_room : ℕ → List Event → List RowsEvent → RowsEvent → Bool
has_room limit maps [] r = true
has_room limit maps (p ∷ piece) r = nat_le (piece_bytes maps (p ∷ (piece ++ r ∷ []))) limit

-- the piece that a rows event joins, or begins
abbrev pub joined : ℕ → List Event → List RowsEvent → RowsEvent → List RowsEvent
joined limit maps piece r = if has_room limit maps piece r then piece ++ r ∷ [] else r ∷ []

-- the piece that it ends, by beginning another
abbrev pub ended : ℕ → List Event → List RowsEvent → RowsEvent → List Written
ended limit maps piece r = if has_room limit maps piece r then [] else piece_written maps piece

-- events whose statements are cut, after these maps and these rows events of an open statement
abbrev pub cut_written : ℕ → List Event → List RowsEvent → List Written → List Written
cut_written limit maps piece [] = piece_written maps piece
cut_written limit maps piece (Same e ∷ ws) = piece_written maps piece ++ Same e ∷ cut_written limit [] [] ws
cut_written limit maps piece (Maps m ∷ ws) = piece_written maps piece ++ cut_written limit (maps ++ m ∷ []) [] ws
cut_written limit maps piece (Changes r true ∷ ws) = ended limit maps piece r ++ (piece_written maps (joined limit maps piece r) ++ cut_written limit [] [] ws)
cut_written limit maps piece (Changes r false ∷ ws) = ended limit maps piece r ++ cut_written limit maps (joined limit maps piece r) ws

-- the rows events among written events
abbrev pub rows_among : List Written → List RowsEvent
rows_among [] = []
rows_among (Same e ∷ ws) = rows_among ws
rows_among (Maps m ∷ ws) = rows_among ws
rows_among (Changes r last ∷ ws) = r ∷ rows_among ws

-- a written event with another end flag, where it has one
abbrev pub ending : Bool → Written → Written
ending last (Same e) = Same e
ending last (Maps m) = Maps m
ending last (Changes r was) = Changes r last

-- ---- what can be cut

-- maps of a statement are told apart by their table ids
abbrev pub AreApart : List Event → Type 0
AreApart maps = IsDistinct bytes_eq (map (λ m. table_id m.body) maps)

-- a map or a rows event has a table id
abbrev pub HasId : Written → Type 0
HasId (Same e) = ⊤
HasId (Maps m) = 6 ≤ length m.body
HasId (Changes r last) = length r.content.id ≡ 6

-- after these maps and so many rows events of an open statement, each statement has its maps apart, and no more maps and rows
-- events than these
abbrev pub CanBeCut : Most → List Event → ℕ → List Written → Type 0
CanBeCut most maps rows [] = ⊤
CanBeCut most maps rows (Same e ∷ ws) = CanBeCut most [] 0 ws
CanBeCut most maps rows (Maps m ∷ ws) = HasId (Maps m) × (length maps < most.maps) × AreApart (maps ++ m ∷ []) × CanBeCut most (maps ++ m ∷ []) rows ws
CanBeCut most maps rows (Changes r true ∷ ws) = HasId (Changes r true) × (rows < most.rows) × CanBeCut most [] 0 ws
CanBeCut most maps rows (Changes r false ∷ ws) = HasId (Changes r false) × (rows < most.rows) × CanBeCut most maps (rows + 1) ws
