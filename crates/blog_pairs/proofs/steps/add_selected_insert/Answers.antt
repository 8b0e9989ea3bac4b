use Rattle.std.proofs.Common.{ℕ, List, [], ◌∷◌, ◌++◌, None, refl, ap, ◌∙◌}
use Rattle.blog_merge.specs.Pairs.{Pair}
use Rattle.blog_row.specs.Image.{row_of}
use Rattle.blog_pairs.specs.code.ColumnsView.{columns_told}
use Rattle.blog_pairs.specs.code.PairsView.{pairs_in, table_at}
use Rattle.blog_pairs.proofs.Fitted.{on_ok}
use Rattle.blog_pairs.proofs.Pairing.{added_pair}
use Rattle.blog_pairs.proofs.steps.add_selected_insert.Goals as goal

pub returns-clause-done : goal.returns-clause-done
returns-clause-done g c = λ bodies fits.
    let slots = c.args.pairs.now.slots.items in
    let n = c.args.table.now.number in
    let columns = columns_told c.args.table.now.columns in
    let make : List ℕ → Pair = λ image. record { table = table_at bodies n; real = row_of columns image; would = None } in
    on_ok c.push.result _ _ (λ done. ap (pairs_in bodies) done ∙ added_pair bodies n columns _ slots fits.has refl refl ∙ ap (λ image. pairs_in bodies slots ++ make image ∷ []) c.in_ok-real.ensures) c.push.ensures.done
