use Rattle.std.proofs.Common.{ℕ, List, option_map, refl, sym, ap, ◌∙◌}
use Rattle.blog_merge.specs.Pairs.{Pair, put, would_be}
use Rattle.blog_row.specs.Image.{row_of}
use Rattle.blog_pairs.specs.code.ColumnsView.{columns_told}
use Rattle.blog_pairs.specs.code.PairsView.{pairs_in, table_at}
use Rattle.blog_pairs.specs.code.Placed.{would_at}
use Rattle.blog_pairs.proofs.Fitted.{on_ok}
use Rattle.blog_pairs.proofs.Pairing.{put_pair, would_by_place}
use Rattle.blog_pairs.proofs.steps.add_selected_update.Goals as goal

pub returns-clause-done : goal.returns-clause-done
returns-clause-done g c = λ bodies fits.
    let slots = c.args.pairs.now.slots.items in
    let n = c.args.table.now.number in
    let columns = columns_told c.args.table.now.columns in
    let r = row_of columns c.args.before.now in
    let place = c.place_of-place.result in
    let at = sym (c.place_of-place.ensures.place bodies fits) in
    let is = ap (option_map (row_of columns)) (c.in_ok-would.ensures ∙ c.would_at.ensures ∙ ap (would_at place c.args.before.now) c.deref.ensures.value)
    ∙ sym (would_by_place bodies n columns c.args.before.now slots place fits.apart fits.has fits.kept.numbered at) in
    let make : List ℕ → Pair = λ image. record { table = table_at bodies n; real = row_of columns image; would = would_be (table_at bodies n) r (pairs_in bodies slots) } in
    on_ok c.put.result _ _ (λ done. ap (pairs_in bodies) done ∙ put_pair bodies n columns r place _ _ slots fits.has refl at is ∙ ap (λ image. put (table_at bodies n) r (make image) (pairs_in bodies slots)) c.in_ok-real.ensures) c.put.ensures.done
