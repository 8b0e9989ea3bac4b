-- Groups whose statements are cut into statements of at most so many bytes.
use Rattle.std.specs.Prelude.{◌≡◌, ℕ, ◌+◌, ◌<◌, ◌≤◌, Bool, true, List, [], ◌∷◌, ◌++◌, map, take, filter, ⊤, bytes_eq}
use Rattle.std.specs.List.{AllByRecursion, flat_map, list_any}
use Rattle.blog_event.specs.Event.{Event, event_size}
use Rattle.blog_row.specs.RowsEvent.{table_id}
use Rattle.blog_trans.specs.Groups.{RowsEvent, Statement, Transaction}
use Rattle.blog_flash.specs.Texts.{rows_event}

-- how many bytes rows events have together as they are written, headers included; the end flag changes no size
abbrev pub rows_bytes : List RowsEvent → ℕ
rows_bytes [] = 0
rows_bytes (r ∷ rows) = event_size (rows_event true r) + rows_bytes rows

-- the same of table maps
abbrev pub maps_bytes : List Event → ℕ
maps_bytes [] = 0
maps_bytes (m ∷ maps) = event_size m + maps_bytes maps

-- some of these rows events goes by the map
abbrev pub is_used_by : List RowsEvent → Event → Bool
is_used_by rows m = list_any (λ r. bytes_eq (table_id m.body) r.content.id) rows

-- how many bytes rows events have with the maps that they use, each map once
abbrev pub piece_bytes : List Event → List RowsEvent → ℕ
piece_bytes maps rows = maps_bytes (filter (is_used_by rows) maps) + rows_bytes rows

-- a piece: one rows event, whatever the size of it and its map, or more of them that have at most `limit` bytes with their maps
abbrev pub IsPiece : ℕ → List Event → List RowsEvent → Type 0
IsPiece limit maps [] = ⊥
IsPiece limit maps (r ∷ []) = ⊤
IsPiece limit maps (r ∷ s ∷ rows) = piece_bytes maps (r ∷ s ∷ rows) ≤ limit

-- no piece has room for the first rows event of the next one, with the map that it would add
abbrev pub AreFull : ℕ → List Event → List (List RowsEvent) → Type 0
AreFull limit maps [] = ⊤
AreFull limit maps (piece ∷ []) = ⊤
AreFull limit maps (piece ∷ next ∷ pieces) = (limit < piece_bytes maps (piece ++ take 1 next)) × AreFull limit maps (next ∷ pieces)

-- the rows events of a statement with these maps are cut into pieces: nothing is lost or moved, and nothing is cut that fits
pub record IsCut (limit : ℕ) (maps : List Event) (rows : List RowsEvent) (pieces : List (List RowsEvent)) : Type 0 where
  pub joined : flat_map (λ piece. piece) pieces ≡ rows
  pub bounded : AllByRecursion (IsPiece limit maps) pieces
  pub full : AreFull limit maps pieces

-- some rows events of a statement as a statement, with the maps that they use
abbrev pub piece_statement : Statement → List RowsEvent → Statement
piece_statement s rows = record { maps = filter (is_used_by rows) s.maps; rows = rows }

-- one statement after the other, each cut
abbrev pub AreCut : ℕ → List Statement → List Statement → Type 0
AreCut limit [] cut = cut ≡ []
AreCut limit (s ∷ ss) cut =
    (pieces : List (List RowsEvent)) × (rest : List Statement) × IsCut limit s.maps s.rows pieces × (cut ≡ map (piece_statement s) pieces ++ rest) × AreCut limit ss rest

-- a transaction stays whole
pub record IsCutTransaction (limit : ℕ) (t u : Transaction) : Type 0 where
  pub begins : u.begin ≡ t.begin
  pub statements : AreCut limit t.statements u.statements
  pub ends : u.end ≡ t.end

-- one transaction after the other
abbrev pub IsCutInto : ℕ → List Transaction → List Transaction → Type 0
IsCutInto limit [] [] = ⊤
IsCutInto limit [] (u ∷ us) = ⊥
IsCutInto limit (t ∷ ts) [] = ⊥
IsCutInto limit (t ∷ ts) (u ∷ us) = IsCutTransaction limit t u × IsCutInto limit ts us
