use Rattle.std.proofs.Common.{ℕ, List, Some, option_map, refl, sym, ap, ◌∙◌}
use Rattle.blog_merge.specs.Merge.{merged}
use Rattle.blog_merge.specs.Pairs.{Pair, put, would_be}
use Rattle.blog_row.specs.Image.{row_of}
use Rattle.blog_pairs.specs.code.ColumnsView.{columns_told}
use Rattle.blog_pairs.specs.code.PairsView.{pairs_in, slots_told, table_at}
use Rattle.blog_pairs.specs.code.Placed.{would_at}
use Rattle.blog_pairs.proofs.Fitted.{map_map, on_ok}
use Rattle.blog_pairs.proofs.Pairing.{later_unpaired, put_pair, would_by_place}
use Rattle.blog_pairs.proofs.steps.add_later_update.Goals as goal

pub returns-in_default-clause-done : goal.returns-in_default-clause-done
returns-in_default-clause-done g c = λ bodies fits.
    let columns = columns_told c.args.table.now.columns in
    sym (later_unpaired (table_at bodies c.args.table.now.number) (row_of columns c.args.before.now) (row_of columns c.args.after.now) (slots_told bodies c.args.pairs.now.slots.items) (sym (c.in_default.ensures.place bodies fits)))

pub returns-clause-done : goal.returns-clause-done
returns-clause-done g c = λ bodies fits.
    let slots = c.args.pairs.now.slots.items in
    let n = c.args.table.now.number in
    let columns = columns_told c.args.table.now.columns in
    let r = row_of columns c.args.before.now in
    let new = row_of columns c.args.after.now in
    let place = Some c.in-Some.slot in
    let at = sym (c.in-Some.ensures.place bodies fits) in
    let other = c.would_at-other.result in
    let before = c.would_at-other.ensures ∙ ap (would_at place c.args.before.now) c.deref.ensures.value in
    let is = map_map (row_of columns) (λ image. image.items) c.in_ok-would.would
    ∙ c.in_ok-would.ensures
    ∙ sym (map_map (λ image. merged r new (row_of columns image)) (λ image. image.now) other)
    ∙ ap (option_map (λ image. merged r new (row_of columns image))) before
    ∙ sym (map_map (merged r new) (row_of columns) (would_at place c.args.before.now slots))
    ∙ ap (option_map (merged r new)) (sym (would_by_place bodies n columns c.args.before.now slots place fits.apart fits.has fits.kept.numbered at)) in
    let make : List ℕ → Pair = λ image. record { table = table_at bodies n; real = row_of columns image; would = option_map (merged r new) (would_be (table_at bodies n) r (pairs_in bodies slots)) } in
    on_ok c.put.result _ _ (λ done. ap (pairs_in bodies) done ∙ put_pair bodies n columns r place _ _ slots fits.has refl at is ∙ ap (λ image. put (table_at bodies n) r (make image) (pairs_in bodies slots)) c.in_ok-real.ensures) c.put.ensures.done
