-- Rows of a table of which no row was left.
use Rattle.std.proofs.Common.{◌≡◌, ℕ, false, ◌&&◌, List, [], ◌∷◌, ◌++◌, Option, Some, None, refl, ap, ap₂, ◌∙◌}
use Rattle.std.specs.Prelude.{filter, nat_eq}
use Rattle.std.specs.List.{list_any}
use Rattle.std.proofs.lemmas.Bool.{cond-false}
use Rattle.std.proofs.lemmas.List.Elements.{filter-append}
use Rattle.blog_row.specs.Column.{Layout}
use Rattle.blog_row.specs.Image.{row_of}
use Rattle.blog_row.specs.RowsEvent.{RowImages}
use Rattle.blog_row.specs.TableMap.{Table}
use Rattle.blog_trans.specs.Changes.{Change, Deleted, Updated}
use Rattle.blog_undo.specs.ByRows.{has_print_among}
use Rattle.blog_undo.specs.Mixed.{takes}
use Rattle.blog_later.specs.Prints.{Left, print_of, table_print, takes_left}
use Rattle.blog_later.specs.code.EventChanges.{image_changes, images_changes}

-- a change takes none, if no row of its table was left
none-taken : (left : Left) (c : Change) → has_print_among (λ r. table_print r.table) (takes c) left.tables ≡ false → filter (takes_left left) (c ∷ []) ≡ []
none-taken left c none = cond-false (takes_left left c) (c ∷ []) [] (ap (λ b. b && has_print_among print_of (takes c) left.rows) none)

by-images : (left : Left) (t : Table) (layout : Layout) (before after : Option (List ℕ)) → list_any (nat_eq (table_print t)) left.tables ≡ false
    → filter (takes_left left) (image_changes t layout before after) ≡ []
by-images left t layout None None none = refl
by-images left t layout None (Some after) none = refl
by-images left t layout (Some before) None none = none-taken left (Deleted t (row_of layout before)) none
by-images left t layout (Some before) (Some after) none = none-taken left (Updated t (row_of layout before) (row_of layout after)) none

pub none-of-table : (left : Left) (t : Table) (layout : Layout) (rows : List RowImages) → list_any (nat_eq (table_print t)) left.tables ≡ false
    → filter (takes_left left) (images_changes t layout rows) ≡ []
none-of-table left t layout [] none = refl
none-of-table left t layout (r ∷ rows) none =
    filter-append (takes_left left) (image_changes t layout r.before r.after) (images_changes t layout rows)
    ∙ ap₂ ◌++◌ (by-images left t layout r.before r.after none) (none-of-table left t layout rows none)
