-- Tables that differ.
use Rattle.std.specs.Prelude.{◌≡◌, ◌≢◌, ◌<◌, ℕ, List, [], ◌++◌, length, slice_index_or}
use Rattle.blog_row.specs.TableMap.{layout_of}
use Rattle.blog_trans.specs.Changes.{table_of}

-- no two bodies of table maps name the same table
abbrev pub AreApart : List (List ℕ) → Type 0
AreApart bodies = (i j : ℕ) → i < length bodies → j < length bodies → table_of (slice_index_or bodies i []) ≡ table_of (slice_index_or bodies j []) → i ≡ j

-- the bodies, and maybe some more
abbrev pub HasMore : List (List ℕ) → List (List ℕ) → Type 0
HasMore bodies all = (more : List (List ℕ)) × (all ≡ bodies ++ more)

-- the body with the number names the table of a body, with the same columns
pub record IsNumberOf (bodies : List (List ℕ)) (body : List ℕ) (n : ℕ) : Type 0 where
  pub within : n < length bodies
  pub table : table_of (slice_index_or bodies n []) ≡ table_of body
  pub layout : layout_of (slice_index_or bodies n []) ≡ layout_of body

-- no body names the table of this one
abbrev pub IsNewTable : List (List ℕ) → List ℕ → Type 0
IsNewTable bodies body = (i : ℕ) → i < length bodies → table_of (slice_index_or bodies i []) ≢ table_of body
