use Rattle.std.proofs.Common.{◌≡◌, drop}
use Rattle.std.specs.List.{list_any}
use Rattle.blog_trans.specs.Changes.{TableCount, counts_of}
use Rattle.blog_trans.specs.Groups.{groups}
use Rattle.blog_trans.specs.code.IndexView.{index_bytes, index_selection}
use Rattle.blog_choice.specs.Choice.{chooses}
use Rattle.blog_choice.specs.code.Views.{choice_value}
use Rattle.blog_request.proofs.wanted.changes_chosen.Given as goal

-- one of those that are left is chosen where one of all is
abbrev pub invariant-loop-n : goal.invariant-loop-n
invariant-loop-n g l =
    list_any (λ (c : TableCount). chooses (choice_value l.choice) c.table.schema c.table.name) (drop l.n (counts_of (groups (index_bytes l.index) (index_selection l.index))))
    ≡ list_any (λ (c : TableCount). chooses (choice_value l.choice) c.table.schema c.table.name) (counts_of (groups (index_bytes l.index) (index_selection l.index)))
