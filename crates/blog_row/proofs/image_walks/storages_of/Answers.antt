-- The storages of the columns are the first ones.
use Rattle.std.proofs.Common.{List, length, take, sym, subst, Option, Some}
use Rattle.blog_row.specs.declared.column.Storage as told
use Rattle.blog_row.specs.code.LayoutView.{layout_columns}
use Rattle.blog_row.specs.code.StorageView.{AreStored, AreLookedUp}
use Rattle.blog_row.proofs.StorageWalking.{stored_by_lists}
use Rattle.blog_row.proofs.image_walks.storages_of.Goals as goal

pub returns-in-Some-clause-stored : goal.returns-in-Some-clause-stored
returns-in-Some-clause-stored c =
    let columns = layout_columns c.args.layout.now in
    let known : AreLookedUp columns (Some c.in-Some.all) = subst (λ (s : Option (List told.Storage)). AreLookedUp columns s) c.in-Some.is c.requires in
    let stored : AreStored columns (take (length columns) c.in-Some.all) = stored_by_lists columns _ known.1 in
    subst (λ n. AreStored columns (take n c.in-Some.all)) (sym c.columns.ensures) stored
