-- Where the maps stand by which the rows events of a log's groups go.
use Rattle.std.specs.Prelude.{ℕ, List, map}
use Rattle.std.specs.List.{flat_map}
use Rattle.blog_trans.specs.Selection.{Selection}
use Rattle.blog_trans.specs.Groups.{placed_groups}

-- the positions of the maps by which the rows events go
abbrev pub map_positions : List ℕ → Selection → List ℕ
map_positions bytes sel = flat_map (λ t. flat_map (λ s. map (λ r. r.map.pos) s.rows) t.statements) (placed_groups bytes sel)
