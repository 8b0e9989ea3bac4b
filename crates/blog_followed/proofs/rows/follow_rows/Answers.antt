use Rattle.std.proofs.Common.{ap, ◌∙◌}
use Rattle.blog_later.specs.code.EventChanges.{image_changes, images_changes}
use Rattle.blog_row.specs.code.RowsView.{row_seen, rows_left}
use Rattle.blog_row.specs.code.StoredLayoutView.{stored_columns}
use Rattle.blog_trans.specs.Changes.{table_of}
use Rattle.blog_followed.proofs.OneRow.{seen-rows}
use Rattle.blog_followed.proofs.Remaining.{remains-on, remains-start}
use Rattle.blog_followed.proofs.rows.follow_rows.Goals as goal

pub loop-row-init : goal.loop-row-init
loop-row-init g c =
    let rows = ap rows_left c.into_iter-row-iterator.ensures.into_iter_gives ∙ c.rows-row-items.ensures.rows in
    record {
      next = tt;
      finite = tt;
      remains = remains-start c.args.keeps c.args.left.now _ _ c.args.followed.now (seen-rows c.args.group.now c.of-table.result _ c.requires c.of-table.ensures rows);
    }

pub loop-row-preserved : goal.loop-row-preserved
loop-row-preserved g c =
    let t = table_of c.of-table.result.body.now in
    let l = stored_columns c.of-table.result.layout in
    record {
      next = tt;
      finite = tt;
      remains = remains-on c.args.keeps c.args.left.now _ (images_changes t l (rows_left c.loop-row.row-iterator)) (image_changes t l (row_seen c.in-Some.row).before (row_seen c.in-Some.row).after)
          (images_changes t l (rows_left c.next.new.self)) c.args.followed.now c.loop-row.followed _ (ap (images_changes t l) c.in-Some.ensures.steps) c.in_ok-follow_row.ensures c.loop-row.invariant.remains;
    }
