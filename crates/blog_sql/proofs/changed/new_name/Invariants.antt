use Rattle.std.proofs.Common.{◌≡◌, ◌≤◌, drop, length}
use Rattle.std.specs.List.{AllByRecursion}
use Rattle.blog_sql.specs.Changed.{renamed_schema}
use Rattle.blog_sql.proofs.changed.new_name.Given as goal

-- no pair so far is for this name
abbrev pub invariant-pairs : goal.invariant-pairs
invariant-pairs l = record {
  same : renamed_schema l.schemas l.name ≡ renamed_schema (drop l.pair-index l.schemas) l.name;
  short : AllByRecursion (λ pair. length pair.to.now ≤ 255) (drop l.pair-index l.schemas);
}
