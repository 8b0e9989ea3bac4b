use Rattle.std.proofs.Common.{ℕ, List, ap, sym, ◌∙◌, length}
use Rattle.std.specs.Prelude.{filter, nat_eq}
use Rattle.std.specs.Hash.FoldHasher.{finish}
use Rattle.std.specs.List.{list_any}
use Rattle.blog_row.specs.RowsEvent.{rows_by}
use Rattle.blog_row.specs.TableMap.{map_names}
use Rattle.blog_row.specs.code.LayoutView.{layout_columns}
use Rattle.blog_row.specs.code.RowsEventView.{rows_body}
use Rattle.blog_row.specs.code.RowsView.{row_seen, rows_left}
use Rattle.blog_trans.specs.Changes.{Change}
use Rattle.blog_later.specs.Prints.{takes_left}
use Rattle.blog_later.specs.code.Counted.{at_most}
use Rattle.blog_later.specs.code.LookedView.{left_before}
use Rattle.blog_later.specs.code.EventChanges.{image_changes, images_changes}
use Rattle.blog_later.proofs.Counting.{counted-more, counted-none, just-one}
use Rattle.blog_later.proofs.EventChanges.{seen-changed}
use Rattle.blog_later.proofs.OtherTables.{none-of-table}
use Rattle.blog_later.proofs.touched.touched_by_event.Goals as goal

pub loop-row-init : goal.loop-row-init
loop-row-init g c =
    let group = c.args.group.now in
    let rows = ap (λ rows. images_changes (map_names group.table).table (layout_columns group.rows.layout) (rows_left rows)) c.into_iter-row-iterator.ensures.into_iter_gives
    ∙ ap (images_changes (map_names group.table).table (layout_columns group.rows.layout)) c.rows-row-items.ensures.rows in
    record { next = tt; finite = tt; counted = counted-none (takes_left (left_before c.args.left.now c.args.lists)) _ _ (rows ∙ sym (seen-changed group c.requires)) }

pub loop-row-preserved-then-is_touched : goal.loop-row-preserved-then-is_touched
loop-row-preserved-then-is_touched g c =
    let table = (map_names c.args.group.now.table).table in
    let layout = layout_columns c.args.group.now.rows.layout in
    let row = row_seen c.in-Some.row in
    let print = c.finish.ensures ∙ ap finish c.table_hasher-hasher.ensures in
    let there = ap (λ (p : ℕ). list_any (nat_eq p) c.args.left.now.tables.items) (sym print) ∙ sym c.has_table.ensures ∙ c.if-not-has_table.false in
    let touched = rw (c.new-layout.ensures, c.layout.ensures) at (c.is_touched.ensures table c.table_hasher-hasher.ensures there) in
    record {
      next = tt;
      finite = tt;
      counted = rw c.saturating_add-touched.ensures (counted-more (takes_left (left_before c.args.left.now c.args.lists)) _ 1 _ _ (image_changes table layout row.before row.after) (images_changes table layout (rows_left c.next.new.self))
          (ap (images_changes table layout) c.in-Some.ensures.steps) (just-one c.is_touched.result _ touched c.if-is_touched.true) c.loop-row.invariant.counted);
    }

pub returns-then-not-has_table : goal.returns-then-not-has_table
returns-then-not-has_table g c =
    let group = c.args.group.now in
    let left = left_before c.args.left.now c.args.lists in
    let print = c.finish.ensures ∙ ap finish c.table_hasher-hasher.ensures in
    let out = ap (λ (p : ℕ). list_any (nat_eq p) c.args.left.now.tables.items) (sym print) ∙ sym c.has_table.ensures ∙ c.if-not-has_table.true in
    sym (ap (λ (cs : List Change). at_most (length (filter (takes_left left) cs))) (seen-changed group c.requires)
    ∙ ap (λ (cs : List Change). at_most (length cs)) (none-of-table left (map_names group.table).table (layout_columns group.rows.layout) (rows_by group.rows.kind.action (rows_body group.rows).images) out))
