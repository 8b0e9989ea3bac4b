-- A column whose storage was looked up is stored so; else its type and its metadata say how.
use Rattle.std.proofs.Common.{◌≡◌, ◌∙◌, ◌+◌, ◌∷◌, drop, get_or, sym, ap, arith}
use Rattle.blog_row.specs.declared.column.Storage.TheVariants as variants
use Rattle.blog_row.specs.Column.{Layout, columns_of}
use Rattle.blog_row.specs.code.LayoutReading.{column_here}
use Rattle.blog_row.specs.code.StoredLayoutView.{stored_columns}
use Rattle.blog_row.proofs.Layouts.{length_of_columns}
use Rattle.blog_row.proofs.StoredWalking.{columns_behind, stored_looked_up}
use Rattle.blog_row.proofs.stored_layout.StoredLayout.storage_at.Goals as goal

pub column_at-requires-clause-below : goal.column_at-requires-clause-below
column_at-requires-clause-below c =
    let layout = c.args.self.now.layout in
    omega (arith, c.requires.below, length_of_columns layout.kinds.now layout.metadata.now)

pub returns-in-Some-clause-stored : goal.returns-in-Some-clause-stored
returns-in-Some-clause-stored c = stored_looked_up (stored_columns c.args.self.now) c.args.self.now.storages c.in-Some.all c.args.column (variants.Fixed 0) c.in-Some.is c.args.self.now.stored c.requires.below

pub returns-in-None-clause-stored : goal.returns-in-None-clause-stored
returns-in-None-clause-stored c =
    let stored = c.args.self.now in
    let here = column_here (get_or stored.layout.kinds.now c.args.column 0) c.args.metadata.now in
    let others : Layout = columns_of (drop (c.args.column + 1) stored.layout.kinds.now) c.column_at.result.1.now in
    let are : drop c.args.column (stored_columns stored) ≡ here ∷ others = sym (c.requires.ahead c.in-None.is).0 ∙ c.column_at.ensures.columns in
    (here, are ∙ ap (λ (t : Layout). here ∷ t) (columns_behind (stored_columns stored) c.args.column here others are), c.column_at.ensures.stored)

pub returns-in-None-clause-ahead : goal.returns-in-None-clause-ahead
returns-in-None-clause-ahead c none =
    let stored = c.args.self.now in
    let here = column_here (get_or stored.layout.kinds.now c.args.column 0) c.args.metadata.now in
    let others : Layout = columns_of (drop (c.args.column + 1) stored.layout.kinds.now) c.column_at.result.1.now in
    let are : drop c.args.column (stored_columns stored) ≡ here ∷ others = sym (c.requires.ahead none).0 ∙ c.column_at.ensures.columns in
    (columns_behind (stored_columns stored) c.args.column here others are, c.column_at.ensures.known)
