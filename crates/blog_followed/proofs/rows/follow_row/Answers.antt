use Rattle.std.proofs.Common.{◌≡◌, Some, None, option_map, sym, ap, ◌∙◌, nat_eq}
use Rattle.std.specs.List.{list_any}
use Rattle.blog_row.specs.code.RowsView.{row_seen}
use Rattle.blog_row.specs.code.StoredLayoutView.{stored_columns}
use Rattle.blog_trans.specs.Changes.{table_of}
use Rattle.blog_followed.specs.code.FollowedView.{all_left, prints_told}
use Rattle.blog_followed.proofs.OneRow.{on-ok, row-inserted, row-other, row-touching}
use Rattle.blog_followed.proofs.rows.follow_row.Goals as goal

pub returns-in_default : goal.returns-in_default
returns-in_default g c =
    let row = row_seen c.args.row.now in
    let is : row.before ≡ None = ap (option_map (λ image. image.now)) c.in_default.is in
    row-inserted c.args.keeps c.args.left.now (table_of c.args.table.now.body.now) (stored_columns c.args.table.now.layout) row.before row.after c.args.followed.now is

pub returns-then-not-is_followed : goal.returns-then-not-is_followed
returns-then-not-is_followed g c =
    let row = row_seen c.args.row.now in
    let table = c.args.table.now in
    let is : row.before ≡ Some c.in-Some.before.now = ap (option_map (λ image. image.now)) c.in-Some.is in
    row-other c.args.keeps c.args.left.now table.body.now (stored_columns table.layout) row.before row.after c.in-Some.before.now c.args.followed.now table.known is
    (ap (λ n. list_any (nat_eq n) (prints_told c.args.left.now c.args.followed.now)) (sym c.print.ensures) ∙ sym c.is_followed.ensures ∙ c.if-not-is_followed.true)

pub returns : goal.returns
returns g c =
    let row = row_seen c.args.row.now in
    let table = c.args.table.now in
    let is : row.before ≡ Some c.in-Some.before.now = ap (option_map (λ image. image.now)) c.in-Some.is in
    on-ok c.keep_if.result _ _ (λ kept. row-touching c.args.keeps c.args.left.now table.body.now (stored_columns table.layout) row.before row.after c.in-Some.before.now c.args.followed.now _ table.known is
    (ap (λ n. list_any (nat_eq n) (prints_told c.args.left.now c.args.followed.now)) (sym c.print.ensures) ∙ sym c.is_followed.ensures ∙ c.if-not-is_followed.false)
    (c.in_ok-add_left.ensures (all_left c.args.left.now)) kept) c.keep_if.ensures
