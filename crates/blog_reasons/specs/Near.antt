-- What a contract sees of tables that come close to one that is asked for.
use Rattle.std.specs.Prelude.{◌≤◌, List, length, Contains}
use Rattle.std.specs.List.{AllByRecursion}
use Rattle.blog_row.specs.TableMap.{Table}
use Rattle.blog_reasons.specs.declared.near.NearTable.{NearTable}

-- such a table, without where its names lie
abbrev pub near_table : {A : Type 0} → NearTable A → Table
near_table near = record { schema = near.schema.items; name = near.table.items }

-- at most five, each one of these tables
pub record AreNear {A : Type 0} (tables : List Table) (near : List (NearTable A)) : Type 0 where
  pub few : length near ≤ 5
  pub named : AllByRecursion (λ n. Contains tables (near_table n)) near
