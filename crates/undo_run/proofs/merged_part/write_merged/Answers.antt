use Rattle.std.proofs.Common.{◌≡◌, ◌||◌, ℕ, Bool, Some, subst, sym, ap, ◌∙◌}
use Rattle.std.proofs.Math.Bool.{or-false}
use Rattle.std.proofs.KnownBytes.{Keeps-refl}
use Rattle.std.specs.Prelude.{Vec}
use Rattle.blog_device.specs.Watched.{device_of, has_failed}
use Rattle.blog_source.specs.code.SourceView.{end_of, fault_of, log_of}
use Rattle.blog_trans.specs.Selection.{Selection, selection_of}
use Rattle.blog_trans.specs.code.IndexView.{index_bytes}
use Rattle.undo_run.specs.Units.{chosen_taken}
use Rattle.undo_run.specs.code.NamesView.{names_told}
use Rattle.undo_run.specs.code.SinceView.{since_seen}
use Rattle.undo_run.specs.code.Steps.{WritesIndex, chosen_by}
use Rattle.undo_run.proofs.Merging.{all-written, merged-written}
use Rattle.undo_run.proofs.Stages.{no-merge-failed, not-merged}
use Rattle.undo_run.proofs.merged_part.write_merged.Goals as goal

pub returns-in-Err-clause-writes : goal.returns-in-Err-clause-writes
returns-in-Err-clause-writes g c =
    let source = c.args.source.now in
    let sel = selection_of c.args.inside.now in
    let names = names_told c.args.logs.now in
    let t = chosen_taken names (chosen_by c.args.among.now sel (log_of source)) sel (log_of source) (end_of source) (fault_of source) in
    not-merged g.L.Read.remaining c.args.later.items c.args.writing.now names t _ _ c.in-Err.fault c.in-Err.ensures (Keeps-refl (g.W.Write.contents (device_of c.args.writer.now)))

pub returns-in-Err-clause-mark : goal.returns-in-Err-clause-mark
returns-in-Err-clause-mark g c =
    let source = c.args.source.now in
    let sel = selection_of c.args.inside.now in
    let t = chosen_taken (names_told c.args.logs.now) (chosen_by c.args.among.now sel (log_of source)) sel (log_of source) (end_of source) (fault_of source) in
    sym (ap (λ (b : Bool). has_failed c.args.writer.now || b) (no-merge-failed (Vec ℕ g.row.A.Denot) g.L.Read.remaining c.args.later.items t c.in-Err.fault c.in-Err.ensures) ∙ or-false (has_failed c.args.writer.now))

pub returns-in-None-clause-writes : goal.returns-in-None-clause-writes
returns-in-None-clause-writes g c =
    let source = c.args.source.now in
    let sel = selection_of c.args.inside.now in
    let names = names_told c.args.logs.now in
    let t = chosen_taken names (chosen_by c.args.among.now sel (log_of source)) sel (log_of source) (end_of source) (fault_of source) in
    let w = c.args.writing.now in
    let had = g.W.Write.contents (device_of c.args.writer.now) in
    let has = g.W.Write.contents (device_of c.write_index.new.writer) in
    let bytes = index_bytes c.args.index.now in
    all-written g.L.Read.remaining c.args.later.items w names t had has c.in-Ok.seen bytes c.write_index.result c.in-Ok.ensures c.in-None.is c.requires.kept
    (subst (λ (s : Selection). WritesIndex w names (Some (since_seen c.in-Ok.seen.since)) bytes s had has c.write_index.result) c.requires.selection c.write_index.ensures.writes)

pub returns-clause-writes : goal.returns-clause-writes
returns-clause-writes g c =
    let source = c.args.source.now in
    let sel = selection_of c.args.inside.now in
    let names = names_told c.args.logs.now in
    let t = chosen_taken names (chosen_by c.args.among.now sel (log_of source)) sel (log_of source) (end_of source) (fault_of source) in
    let had = g.W.Write.contents (device_of c.args.writer.now) in
    let has = g.W.Write.contents (device_of c.write_merging.new.writer) in
    merged-written g.L.Read.remaining c.args.later.items c.args.writing.now names t had has c.in-Ok.seen c.in-Some.merging c.args.index.now c.write_merging.result c.in-Ok.ensures c.in-Some.is c.requires.kept c.requires.selection c.write_merging.ensures.writes
