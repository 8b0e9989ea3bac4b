-- Names of tables, and tables in the order in which each comes first.
use Rattle.std.proofs.Common.{rules, ◌≡◌, true, if◌then◌else◌, ◌||◌, List, [], ◌∷◌, ◌++◌, refl, Decides}
use Rattle.std.specs.Cmp.{IsEquivalence}
use Rattle.std.specs.List.{list_any}
use Rattle.std.proofs.Math.Bool.{or-false}
use Rattle.blog_row.specs.TableMap.{Table}
use Rattle.blog_trans.specs.Acceptance.{is_same_table}
use Rattle.blog_trans.specs.Changes.{first_tables}

-- names that are tested as equal are equal
pub is_same_table-Decides : (t u : Table) → Decides (is_same_table t u) (t ≡ u)
is_same_table-Decides t u = search rules

pub same-table : (t u : Table) → is_same_table t u ≡ true → t ≡ u
same-table t u = (is_same_table-Decides t u).0

pub own-table : (t : Table) → is_same_table t t ≡ true
own-table t = (is_same_table-Decides t t).1 refl

pub table-laws : IsEquivalence is_same_table
table-laws = search rules

-- one more table is taken where it is none of those before
pub first_tables-more : (seen ts : List Table) (t : Table)
    → first_tables seen (ts ++ t ∷ []) ≡ first_tables seen ts ++ (if list_any (is_same_table t) seen || list_any (is_same_table t) ts then [] else t ∷ [])
first_tables-more seen [] t = rw (or-false (list_any (is_same_table t) seen)) refl
first_tables-more seen (u ∷ ts) t = search (rules, first_tables-more seen ts t, first_tables-more (u ∷ seen) ts t, same-table)
