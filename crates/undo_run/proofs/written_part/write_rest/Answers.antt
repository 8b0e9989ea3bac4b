use Rattle.std.proofs.Common.{◌≡◌, ℕ, List, ◌++◌, subst, ◌∙◌}
use Rattle.std.specs.Prelude.{option_map}
use Rattle.blog_device.specs.Watched.{device_of}
use Rattle.blog_left_out.specs.code.LeftOutView.{bytes_left}
use Rattle.blog_trans.specs.Selection.{Selection, all}
use Rattle.blog_trans.specs.code.IndexView.{index_bytes, index_selection}
use Rattle.undo_run.specs.code.NamesView.{names_told}
use Rattle.undo_run.specs.code.SinceView.{since_seen}
use Rattle.undo_run.specs.code.Steps.{WritesGroups, report_told}
use Rattle.undo_run.proofs.written_part.write_rest.Goals as goal

pub returns-clause-writes : goal.returns-clause-writes
returns-clause-writes g c =
    let w = c.args.writing.now in
    let names = names_told c.args.logs.now in
    let since = option_map since_seen c.args.since.now in
    let index = c.in-Ok.index in
    let own = bytes_left c.args.rest.now.log in
    let had = g.W.Write.contents (device_of c.args.writer.now) in
    let has = g.W.Write.contents (device_of c.write_told.new.writer) in
    let told = c.in_ok-told.told.items in
    let r = c.write_told.result in
    let telling : told ≡ report_told w names since own all ++ c.args.rest.now.told.items =
    c.in_ok-told.ensures ∙ (λ i. report_told w names since (c.in-Ok.ensures.bytes i) (c.in-Ok.ensures.selection i) ++ c.deref.ensures.value i) in
    subst (λ (text : List ℕ). WritesGroups w text own all had has r) telling
    (subst (λ (s : Selection). WritesGroups w told own s had has r) c.in-Ok.ensures.selection
    (subst (λ (b : List ℕ). WritesGroups w told b (index_selection index) had has r) c.in-Ok.ensures.bytes c.write_told.ensures.writes))
