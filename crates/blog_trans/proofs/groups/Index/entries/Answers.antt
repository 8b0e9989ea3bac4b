-- The entries are those of the events that the groups show.
use Rattle.std.proofs.Common.{arith, ◌∙◌}
use Rattle.blog_trans.specs.code.IndexView.{index_bytes, index_selection}
use Rattle.blog_trans.proofs.Shown.{entries-at, entries-once, entries-few}
use Rattle.blog_trans.proofs.groups.Index.entries.Goals as goal

pub returns-clause-ats : goal.returns-clause-ats
returns-clause-ats g c = grind (arith, entries-at)

pub returns-clause-once : goal.returns-clause-once
returns-clause-once g c = grind (arith, entries-once)

pub returns-clause-few : goal.returns-clause-few
returns-clause-few g c =
    let index = c.args.self.now in
    entries-few c.deref.result.now (index_bytes index) (index_selection index) index.accepted (c.deref.ensures.value ∙ index.entries_are)
