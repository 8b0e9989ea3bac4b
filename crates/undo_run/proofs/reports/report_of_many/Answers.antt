use Rattle.std.proofs.Common.{List, ℕ, ◌++◌, ap, ◌∙◌}
use Rattle.std.specs.Prelude.{option_map}
use Rattle.blog_text.proofs.Growing.{both-parts}
use Rattle.blog_text.specs.code.Counted.{counts_in}
use Rattle.undo_run.specs.Reports.{report}
use Rattle.undo_run.specs.code.NamesView.{names_told}
use Rattle.undo_run.specs.code.SinceView.{since_seen}
use Rattle.undo_run.proofs.reports.report_of_many.Goals as goal

pub returns : goal.returns
returns g c =
    let start : List ℕ = c.new-out.result.items in
    let one : List ℕ = c.put_changes.new.out.items in
    let two : List ℕ = c.put_later.new.out.items in
    let new : List ℕ = c.put_text.new.out.items in
    both-parts start one new _ _ c.in_ok-put_changes.ensures
    (both-parts one two new _ _ c.in_ok-put_later.ensures
    (c.in_ok-put_text.ensures ∙ ap (λ (text : List ℕ). two ++ text) c.cascades_text.ensures))
    ∙ ap (λ (front : List ℕ). front ++ report c.args.order (names_told c.args.logs.now) c.args.transactions (counts_in c.args.index.now) (option_map since_seen c.args.since.now)) c.new-out.ensures.items
