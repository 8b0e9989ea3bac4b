-- The table maps of a statement. `statement` has its events so far, the latest first.
use Rattle.std.specs.Prelude.{ℕ, Bool, ◌&&◌, not, if◌then◌else◌, List, [], ◌∷◌, ◌++◌, filter, Option, None, option_map, bytes_eq}
use Rattle.std.specs.Result.{result_ok}
use Rattle.std.specs.List.{list_any}
use Rattle.byteorder.specs.Endian.{little_number}
use Rattle.blog_event.specs.File.{Placed}
use Rattle.blog_row.specs.Column.{Layout}
use Rattle.blog_row.specs.code.LayoutView.{layout_columns}
use Rattle.blog_row.specs.TableMap.{layout_of}
use Rattle.blog_row.specs.RowsEvent.{table_id}
use Rattle.blog_trans.specs.declared.checker.MapSeen.{MapSeen}
use Rattle.blog_trans.specs.Selection.{Selection}
use Rattle.blog_trans.specs.Places.{is_map, is_rows, is_map_of}
use Rattle.blog_trans.specs.Acceptance.{is_selected}

-- the first map of each table id, in the order of the log
abbrev pub first_of_ids : List Placed → List Placed
first_of_ids [] = []
first_of_ids (p ∷ statement) =
    if is_map p && not (list_any (is_map_of (table_id p.event.body)) statement) then first_of_ids statement ++ p ∷ [] else first_of_ids statement

-- the table is selected, and a rows event has the map's table id
abbrev pub is_used : Selection → List Placed → Placed → Bool
is_used sel statement m = is_selected sel m.event.body && list_any (λ p. is_rows p && bytes_eq (table_id p.event.body) (table_id m.event.body)) statement

-- those that are used, of the maps of a statement
abbrev pub used_of : Selection → List Placed → List Placed
used_of sel statement = filter (is_used sel statement) (first_of_ids statement)

-- what is known of a map
pub record MapFacts : Type 0 where
  pub id : ℕ
  pub at : ℕ
  pub body : List ℕ
  pub layout : Option Layout
  pub used : Bool

-- of one of the log
abbrev pub facts_of : Selection → List Placed → Placed → MapFacts
facts_of sel statement m = record {
  id = little_number 6 (table_id m.event.body);
  at = m.pos;
  body = m.event.body;
  layout = if is_selected sel m.event.body then result_ok (layout_of m.event.body) else None;
  used = is_used sel statement m;
}

-- of one that the program holds under its table id
abbrev pub facts_held : ℕ × MapSeen → MapFacts
facts_held e = record {
  id = e.0;
  at = e.1.at;
  body = e.1.body.now;
  layout = option_map (λ t. layout_columns t.layout) e.1.table;
  used = e.1.used;
}

-- those that are used, of the maps that the program holds
abbrev pub used_maps : List MapSeen → List MapSeen
used_maps maps = filter (λ m. m.used) maps
