-- The rows by table that a contract sees in an index.
use Rattle.std.specs.Prelude.{List}
use Rattle.blog_trans.specs.Changes.{TableCount, counts_of}
use Rattle.blog_trans.specs.Groups.{groups}
use Rattle.blog_trans.specs.code.IndexView.{index_bytes, index_selection}
use Rattle.blog_trans.specs.declared.groups.Index.{Index}

-- those of its groups
abbrev pub counts_in : {A : Type 0} → Index A → List TableCount
counts_in index = counts_of (groups (index_bytes index) (index_selection index))
