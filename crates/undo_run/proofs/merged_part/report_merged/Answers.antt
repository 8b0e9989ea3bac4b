use Rattle.std.proofs.Common.{◌≡◌, ℕ, List, ◌++◌, ap, sym, ◌∙◌}
use Rattle.std.specs.Prelude.{option_map}
use Rattle.blog_trans.specs.Changes.{counts_of}
use Rattle.blog_trans.specs.Groups.{groups}
use Rattle.blog_trans.specs.Selection.{Selection}
use Rattle.blog_trans.specs.code.IndexView.{index_bytes, index_selection}
use Rattle.undo_run.specs.Reports.{report}
use Rattle.undo_run.specs.code.Merges.{merging_told}
use Rattle.undo_run.specs.code.NamesView.{names_told}
use Rattle.undo_run.specs.code.SinceView.{since_seen}
use Rattle.undo_run.proofs.Stages.{how-many}
use Rattle.undo_run.proofs.merged_part.report_merged.Goals as goal

pub returns-in-Ok-put_text : goal.returns-in-Ok-put_text
returns-in-Ok-put_text g c =
    let w = c.args.writing.now in
    let names = names_told c.args.logs.now in
    let since = option_map since_seen c.args.since.now in
    let bytes = index_bytes c.args.index.now in
    let chosen = c.args.chosen.now in
    let many = c.transactions-many.ensures ∙ sym (how-many (index_bytes chosen) (index_selection chosen)) in
    let counted : c.in-Ok.told.items ≡ merging_told w names chosen since bytes =
    c.in-Ok.ensures ∙ (λ i. report w.order names (many i) (counts_of (groups bytes (c.requires i))) since) in
    c.in-Ok-put_text.ensures ∙ ap (λ (text : List ℕ). text ++ c.args.merged.now) counted
