-- What the table maps of groups say of tables.
use Rattle.std.specs.Prelude.{◌≡◌, ℕ, List, Contains, Some, Ok}
use Rattle.std.specs.List.{flat_map}
use Rattle.blog_event.specs.Event.{Event}
use Rattle.blog_row.specs.Column.{Layout}
use Rattle.blog_row.specs.TableMap.{Names, names_of, layout_of}
use Rattle.blog_trans.specs.Selection.{Selection}
use Rattle.blog_trans.specs.Groups.{Transaction, groups}
use Rattle.blog_trans.specs.Changes.{table_of}

-- the table maps of groups
abbrev pub maps_of : List Transaction → List Event
maps_of ts = flat_map (λ t. flat_map (λ s. s.maps) t.statements) ts

-- Each map of the groups of a log has names and a layout, and maps of the same table have the same layout.
pub record MapsAgree (bytes : List ℕ) (sel : Selection) : Type 0 where
  pub names : (m : Event) → Contains (maps_of (groups bytes sel)) m → (n : Names) × (names_of m.body ≡ Some n)
  pub layouts : (m : Event) → Contains (maps_of (groups bytes sel)) m → (c : Layout) × (layout_of m.body ≡ Ok c)
  pub agree : (a b : Event) → Contains (maps_of (groups bytes sel)) a → Contains (maps_of (groups bytes sel)) b → table_of a.body ≡ table_of b.body → layout_of a.body ≡ layout_of b.body
