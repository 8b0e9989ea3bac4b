use Rattle.std.proofs.Common.{◌∙◌, List, map, ap, sym, arith, ◌≡◌, ◌<◌, ◌⊎◌, inl, inr, true}
use Rattle.blog_later.specs.Among.{from_first}
use Rattle.blog_later.specs.Later.{later_units}
use Rattle.blog_source.specs.code.SourceView.{end_of, fault_of, log_of}
use Rattle.blog_trans.specs.Selection.{selection_of}
use Rattle.blog_untouched.specs.Steps.{unit_step}
use Rattle.undo_run.specs.Units.{chosen_taken}
use Rattle.undo_run.specs.code.NamesView.{names_told}
use Rattle.undo_run.specs.code.Steps.{chosen_by}
use Rattle.undo_run.proofs.Leaving.{unknown-after}
use Rattle.undo_run.proofs.Merging.{all-merged, none-merged}
use Rattle.undo_run.proofs.merged.look_and_merge.Goals as goal
use Rattle.undo_run.proofs.merged.look_and_merge.Goals.{then-since-gt0-via-then-since-gt0, then-since-gt0-via-else-since-gt0+then-since}

pub returns-then-since-gt0 : goal.returns-then-since-gt0
returns-then-since-gt0 g c =
    let source = c.args.source.now in
    let sel = selection_of c.args.inside.now in
    let p = chosen_by c.args.among.now sel (log_of source) in
    let t = chosen_taken (names_told c.args.logs.now) p sel (log_of source) (end_of source) (fault_of source) in
    let some : (0 < c.in-Ok.recorded.since.unknown) ⊎ (c.in-Ok.recorded.since.is_damaged ≡ true) =
    elim c.then-since-gt0.branch [ then-since-gt0-via-then-since-gt0 w ↦ inl w.if-since-gt0.true | then-since-gt0-via-else-since-gt0+then-since w ↦ inr w.if-since.true ] in
    unknown-after g.L.Read.remaining c.args.later.items t true c.in-Ok.recorded c.in-Ok.ensures some

pub returns-in-Ok-merge_touched : goal.returns-in-Ok-merge_touched
returns-in-Ok-merge_touched g c =
    let source = c.args.source.now in
    let sel = selection_of c.args.inside.now in
    let p = chosen_by c.args.among.now sel (log_of source) in
    let t = chosen_taken (names_told c.args.logs.now) p sel (log_of source) (end_of source) (fault_of source) in
    let known = c.if-since-gt0.false in
    all-merged g.L.Read.remaining c.args.later.items t c.in-Ok.recorded c.in-Ok-merge_touched.merging (omega (arith, known)) c.if-since.false c.in-Ok.ensures
    (λ logs are. c.in-Ok-merge_touched.ensures t logs p c.requires.kept c.requires.selection (c.requires.chosen ∙ ap (λ (bytes : List _). map p (later_units bytes sel.start)) (sym c.requires.bytes))
    (ap (λ (bytes : List _). map (unit_step p sel bytes) (from_first p (later_units bytes sel.start))) (sym c.requires.bytes)) are.changes)

pub returns : goal.returns
returns g c =
    let source = c.args.source.now in
    let sel = selection_of c.args.inside.now in
    let p = chosen_by c.args.among.now sel (log_of source) in
    let t = chosen_taken (names_told c.args.logs.now) p sel (log_of source) (end_of source) (fault_of source) in
    let known = c.if-since-gt0.false in
    none-merged g.L.Read.remaining c.args.later.items t c.in-Ok.recorded c.in-Err-merge_touched.fault (omega (arith, known)) c.if-since.false c.in-Ok.ensures
    (λ logs are. c.in-Err-merge_touched.ensures t logs p c.requires.kept c.requires.selection (c.requires.chosen ∙ ap (λ (bytes : List _). map p (later_units bytes sel.start)) (sym c.requires.bytes))
    (ap (λ (bytes : List _). map (unit_step p sel bytes) (from_first p (later_units bytes sel.start))) (sym c.requires.bytes)) are.changes)
