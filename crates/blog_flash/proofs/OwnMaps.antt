-- Each rows event of groups goes by a map of its statement.
use Rattle.std.proofs.Common.{ℕ, List, bytes_eq}
use Rattle.std.specs.Prelude.{Contains}
use Rattle.std.proofs.lemmas.Bool.{and_parts}
use Rattle.std.proofs.lemmas.List.Elements.{All-contains_itself, recursion_from_All}
use Rattle.blog_event.specs.File.{Placed, placed_from, read}
use Rattle.blog_trans.specs.Selection.{Selection}
use Rattle.blog_trans.specs.Places.{is_map, is_map_of}
use Rattle.blog_trans.specs.Acceptance.{range}
use Rattle.blog_trans.specs.Groups.{PlacedRows, placed_groups_in, placed_groups}
use Rattle.blog_trans.specs.PlacedFacts.{IsPlacedRows, IsPlacedStatement, IsPlacedTransaction}
use Rattle.blog_trans.proofs.PlacedFacts.{groups-among}
use Rattle.blog_trans.proofs.PlacedParts.{all-by, all-found}
use Rattle.blog_trans.proofs.ProgressFirsts.{id_at, bytes-same}
use Rattle.blog_flash.specs.Shown.{GoesByMapOf, GoByOwnMaps}

-- the map that is found is among the maps, and has the table id
row-goes : (Member : Placed → Type 0) (sel : Selection) (maps : List Placed) (r : PlacedRows) → IsPlacedRows Member sel maps r → GoesByMapOf maps r
row-goes Member sel maps r h =
    let found = all-found (Contains maps) (is_map_of (id_at r.event)) maps r.map (recursion_from_All (Contains maps) maps (All-contains_itself maps)) h.found in
    record { among = found.0; id = bytes-same (id_at r.map) (id_at r.event) (and_parts (is_map r.map) (bytes_eq (id_at r.map) (id_at r.event)) found.1).1 }

-- of each log
pub go-by-own-maps : (bytes : List ℕ) (sel : Selection) → GoByOwnMaps (placed_groups bytes sel)
unfolding placed_groups
go-by-own-maps bytes sel =
    let events : List Placed = range sel (placed_from 4 (read bytes sel.stop)) in
    let Member : Placed → Type 0 = Contains events in
    all-by (IsPlacedTransaction Member sel) _ (λ t in_t. all-by (IsPlacedStatement Member sel) _ (λ s in_s.
    all-by (IsPlacedRows Member sel s.maps) (GoesByMapOf s.maps) (row-goes Member sel s.maps) s.rows in_s.rows) t.statements in_t.statements)
    (placed_groups_in sel events) (groups-among sel events)
