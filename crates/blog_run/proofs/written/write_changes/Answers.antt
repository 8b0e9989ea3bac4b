use Rattle.std.proofs.Common.{ℕ, List, subst}
use Rattle.blog_device.specs.Watched.{device_of}
use Rattle.blog_trans.specs.Selection.{Selection, selection_of}
use Rattle.blog_trans.specs.code.IndexView.{index_selection}
use Rattle.blog_run.specs.Writing.{WritesGroups}
use Rattle.blog_run.proofs.Changes.{writes-changes}
use Rattle.blog_run.proofs.written.write_changes.Goals as goal

pub returns-in-Ok-clause-written : goal.returns-in-Ok-clause-written
returns-in-Ok-clause-written g c =
    let w = c.args.writing.now in
    let bytes = c.args.bytes.now in
    let had = g.W.Write.contents (device_of c.args.writer.now) in
    let has = g.W.Write.contents (device_of c.write_groups.new.writer) in
    let r = c.write_groups.result in
    let of_bytes = subst (λ (b : List ℕ). WritesGroups w.sql w.order w.limit b (index_selection c.in-Ok.index) had has r) c.in-Ok.ensures.bytes c.write_groups.ensures.written in
    let of_sel = subst (λ (s : Selection). WritesGroups w.sql w.order w.limit bytes s had has r) c.in-Ok.ensures.selection of_bytes in
    writes-changes w bytes (selection_of c.args.sel.now) had has r c.in-Ok.ensures.accepted of_sel
