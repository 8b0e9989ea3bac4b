-- There are as many storages as columns, and a table has at most 4,096.
use Rattle.std.proofs.Common.{Option, IfSome, subst, arith}
use Rattle.blog_row.specs.code.LayoutView.{layout_columns}
use Rattle.blog_row.specs.code.StorageView.{AreStored}
use Rattle.blog_row.proofs.Layouts.{length_of_columns}
use Rattle.blog_row.proofs.StorageWalking.{as_many_stored}
use Rattle.blog_row.proofs.layout.Layout.image_len_by.Goals as goal

pub len_by-requires : goal.len_by-requires
len_by-requires c =
    let layout = c.args.self.now in
    let stored : AreStored (layout_columns layout) c.in-Some.storages.now = subst (λ (o : Option _). IfSome o (λ each. AreStored (layout_columns layout) each.now)) c.in-Some.is c.requires in
    let same = as_many_stored (layout_columns layout) c.in-Some.storages.now stored in
    record { few = omega (arith, same, layout.few, length_of_columns layout.kinds.now layout.metadata.now) }
