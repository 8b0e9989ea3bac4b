use Rattle.std.proofs.Common.{◌≡◌, drop, bytes_eq}
use Rattle.std.specs.List.{list_any}
use Rattle.blog_trans.specs.Changes.{TableCount, counts_of}
use Rattle.blog_trans.specs.Groups.{groups}
use Rattle.blog_trans.specs.code.IndexView.{index_bytes, index_selection}
use Rattle.blog_sql.proofs.schemas.has_schema.Given as goal

-- one of those that are left is in the schema where one of all is
abbrev pub invariant-loop-n : goal.invariant-loop-n
invariant-loop-n g l =
    list_any (λ (c : TableCount). bytes_eq c.table.schema l.name) (drop l.n (counts_of (groups (index_bytes l.index) (index_selection l.index))))
    ≡ list_any (λ (c : TableCount). bytes_eq c.table.schema l.name) (counts_of (groups (index_bytes l.index) (index_selection l.index)))
