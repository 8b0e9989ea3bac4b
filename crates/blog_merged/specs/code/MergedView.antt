-- What a contract sees of a log of a merge.
use Rattle.std.specs.Prelude.{ℕ, List}
use Rattle.blog_gathered.specs.code.GatheredView.{bytes_gathered}
use Rattle.blog_merged.specs.declared.merged.MergedLog.{MergedLog}

-- its bytes
abbrev pub bytes_merged : {A : Type 0} → MergedLog A → List ℕ
bytes_merged log = bytes_gathered log.gathered
