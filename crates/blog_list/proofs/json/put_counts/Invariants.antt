use Rattle.std.proofs.Common.{◌≡◌, ◌++◌, drop}
use Rattle.std.specs.List.{flat_map}
use Rattle.blog_trans.specs.Changes.{counts_of}
use Rattle.blog_trans.specs.Groups.{groups}
use Rattle.blog_trans.specs.code.IndexView.{index_bytes, index_selection}
use Rattle.blog_list.specs.Json.{json_counts, json_next}
use Rattle.blog_list.proofs.json.put_counts.Given as goal

-- the tables are left from number n on
abbrev pub invariant-loop-n : goal.invariant-loop-n
invariant-loop-n g l =
    l.out.items ++ flat_map json_next (drop l.n (counts_of (groups (index_bytes l.index) (index_selection l.index))))
    ≡ l.fn.out.items ++ json_counts (counts_of (groups (index_bytes l.index) (index_selection l.index)))
