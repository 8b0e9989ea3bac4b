use Rattle.std.proofs.Common.{ℕ, List, Option, Some, refl, ap, subst, sym, ◌∙◌, inr}
use Rattle.blog_gathered.specs.declared.gathered.Gathered.{Gathered}
use Rattle.blog_source.specs.code.SourceView.{log_of}
use Rattle.blog_trans.specs.Acceptance.{IsAccepted, IsRefusal, fault}
use Rattle.blog_trans.specs.Changes.{counts_of}
use Rattle.blog_trans.specs.Groups.{groups}
use Rattle.blog_trans.specs.Selection.{all, selection_of}
use Rattle.undo_run.specs.Parts.{has_rows}
use Rattle.undo_run.specs.Units.{chosen_units}
use Rattle.undo_run.specs.code.Steps.{IsKept, chosen_by}
use Rattle.undo_run.proofs.Kept.{kept-accepted, kept-bytes}
use Rattle.undo_run.proofs.chosen.index_of_chosen.Goals as goal

pub returns-in-Ok : goal.returns-in-Ok
returns-in-Ok g c =
    let sel = selection_of c.args.inside.now in
    let handed = log_of c.args.source.now in
    let us = chosen_units (chosen_by c.args.among.now sel handed) sel handed in
    let kept = subst (λ (o : Option (Gathered _)). IsKept sel handed us o) c.in-Some.is c.requires in
    let text = kept-bytes sel handed us c.in-Some.gathered kept in
    let bytes = c.in-Ok.ensures.bytes ∙ text in
    let whole = c.in-Ok.ensures.selection in (
      record {
        whole = refl;
        accepted = kept-accepted sel handed us (Some c.in-Some.gathered) kept;
        agree = subst (λ (b : List ℕ). IsAccepted b all) text c.in-Ok.ensures.accepted;
        rows = ap has_rows (λ i. counts_of (groups (sym bytes i) (sym whole i))) ∙ sym c.has_rows.ensures ∙ c.if-has_rows.true;
      },
      bytes,
      whole,
    )

pub returns-in-Ok-2 : goal.returns-in-Ok-2
returns-in-Ok-2 g c =
    let sel = selection_of c.args.inside.now in
    let handed = log_of c.args.source.now in
    let us = chosen_units (chosen_by c.args.among.now sel handed) sel handed in
    let kept = subst (λ (o : Option (Gathered _)). IsKept sel handed us o) c.in-Some.is c.requires in
    let bytes = c.in-Ok.ensures.bytes ∙ kept-bytes sel handed us c.in-Some.gathered kept in
    let whole = c.in-Ok.ensures.selection in (
      refl,
      kept-accepted sel handed us (Some c.in-Some.gathered) kept,
      inr (ap has_rows (λ i. counts_of (groups (sym bytes i) (sym whole i))) ∙ sym c.has_rows.ensures ∙ c.if-has_rows.false),
    )

pub returns : goal.returns
returns g c =
    let sel = selection_of c.args.inside.now in
    let handed = log_of c.args.source.now in
    let us = chosen_units (chosen_by c.args.among.now sel handed) sel handed in
    let kept = subst (λ (o : Option (Gathered _)). IsKept sel handed us o) c.in-Some.is c.requires in
    inr (
      refl,
      kept-accepted sel handed us (Some c.in-Some.gathered) kept,
      (
        c.in-Err.fault,
        subst (λ (b : List ℕ). IsRefusal (fault b all) c.in-Err.fault) (kept-bytes sel handed us c.in-Some.gathered kept) c.in-Err.ensures.refused,
        c.told_at.ensures,
      ),
    )
