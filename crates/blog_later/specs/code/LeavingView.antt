-- What was kept of lists of changes, before it is in order.
use Rattle.std.specs.Prelude.{◌≡◌, ℕ, ◌+◌, ◌<◌, List, [], ◌∷◌, ◌++◌, length}
use Rattle.std.specs.List.{flat_map}
use Rattle.blog_trans.specs.Changes.{Change}
use Rattle.blog_later.specs.Prints.{print_in, prints_left, table_print}
use Rattle.blog_later.specs.declared.leaving.Leaving.{Leaving}

-- the fingerprints of the rows that lists left, with the numbers of these lists, from n on
abbrev pub numbered : ℕ → List (List Change) → List ℕ
numbered n [] = []
numbered n (cs ∷ css) = prints_left (print_in n) cs ++ numbered (n + 1) css

pub record HasLeft {A : Type 0} (css : List (List Change)) (leaving : Leaving A) : Type 0 where
  pub rows : leaving.rows.items ≡ numbered 0 css
  pub tables : leaving.tables.items ≡ prints_left (λ r. table_print r.table) (flat_map (λ cs. cs) css)
  pub lists : leaving.lists ≡ length css
  pub few : length css < 4294967296
