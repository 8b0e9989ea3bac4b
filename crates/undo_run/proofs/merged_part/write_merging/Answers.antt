use Rattle.std.proofs.Common.{◌≡◌, ℕ, List, ◌++◌, subst, ◌∙◌}
use Rattle.std.specs.Prelude.{option_map}
use Rattle.blog_device.specs.Watched.{device_of}
use Rattle.blog_merged.specs.code.MergedView.{bytes_merged}
use Rattle.blog_trans.specs.Selection.{Selection, all}
use Rattle.blog_trans.specs.code.IndexView.{index_bytes, index_selection}
use Rattle.undo_run.specs.code.Merges.{merging_told}
use Rattle.undo_run.specs.code.NamesView.{names_told}
use Rattle.undo_run.specs.code.SinceView.{since_seen}
use Rattle.undo_run.specs.code.Steps.{WritesGroups}
use Rattle.undo_run.proofs.merged_part.write_merging.Goals as goal

pub returns-clause-writes : goal.returns-clause-writes
returns-clause-writes g c =
    let w = c.args.writing.now in
    let names = names_told c.args.logs.now in
    let since = option_map since_seen c.args.since.now in
    let index = c.in-Ok.index in
    let own = bytes_merged c.args.merging.now.log in
    let had = g.W.Write.contents (device_of c.args.writer.now) in
    let has = g.W.Write.contents (device_of c.write_told.new.writer) in
    let told = c.in_ok-told.told.items in
    let r = c.write_told.result in
    let telling : told ≡ merging_told w names c.args.chosen.now since own ++ c.args.merging.now.told.items =
    c.in_ok-told.ensures ∙ (λ i. merging_told w names c.args.chosen.now since (c.in-Ok.ensures.bytes i) ++ c.deref.ensures.value i) in
    subst (λ (text : List ℕ). WritesGroups w text own all had has r) telling
    (subst (λ (s : Selection). WritesGroups w told own s had has r) c.in-Ok.ensures.selection
    (subst (λ (b : List ℕ). WritesGroups w told b (index_selection index) had has r) c.in-Ok.ensures.bytes c.write_told.ensures.writes))
