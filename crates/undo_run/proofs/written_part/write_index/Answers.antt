use Rattle.std.proofs.Common.{◌≡◌, ℕ, List, ap, subst, sym, ◌∙◌}
use Rattle.std.specs.Prelude.{option_map}
use Rattle.blog_device.specs.Watched.{device_of}
use Rattle.blog_trans.specs.Changes.{counts_of}
use Rattle.blog_trans.specs.Groups.{groups}
use Rattle.blog_trans.specs.code.IndexView.{index_bytes, index_selection}
use Rattle.undo_run.specs.Reports.{report}
use Rattle.undo_run.specs.code.NamesView.{names_told}
use Rattle.undo_run.specs.code.SinceView.{since_seen}
use Rattle.undo_run.specs.code.Steps.{WritesGroups, report_told}
use Rattle.undo_run.proofs.Stages.{how-many}
use Rattle.undo_run.proofs.written_part.write_index.Goals as goal

pub returns-clause-writes : goal.returns-clause-writes
returns-clause-writes g c =
    let bytes = index_bytes c.args.index.now in
    let sel = index_selection c.args.index.now in
    let counted : c.in_ok-told.told.items ≡ report_told c.args.writing.now (names_told c.args.logs.now) (option_map since_seen c.args.since.now) bytes sel =
    c.in_ok-told.ensures
    ∙ ap (λ (n : ℕ). report c.args.writing.now.order (names_told c.args.logs.now) n (counts_of (groups bytes sel)) (option_map since_seen c.args.since.now)) (sym (how-many bytes sel)) in
    subst (λ (telling : List ℕ). WritesGroups c.args.writing.now telling bytes sel (g.W.Write.contents (device_of c.args.writer.now)) (g.W.Write.contents (device_of c.write_told.new.writer)) c.write_told.result) counted c.write_told.ensures.writes
