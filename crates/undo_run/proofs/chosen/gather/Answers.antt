use Rattle.std.proofs.Common.{Option, Some, [], subst, ap, sym, ◌∙◌}
use Rattle.blog_gathered.specs.code.GatheredView.{IsGathered, range_of}
use Rattle.blog_gathered.specs.declared.gathered.Gathered.{Gathered}
use Rattle.undo_run.specs.code.Steps.{IsKept}
use Rattle.undo_run.proofs.Kept.{IsReady, gathers-more, ready-first, ready-more}
use Rattle.undo_run.proofs.chosen.gather.Goals.{in-Some, in-None+in_ok-all-in-None}
use Rattle.undo_run.proofs.chosen.gather.Goals as goal

pub returns-in-Ok : goal.returns-in-Ok
returns-in-Ok g c sel handed us u is kept =
    let r = range_of c.args.index.now in
    let all = c.match-gathered.all in
    let ready : IsReady sel handed us u all = elim c.match-gathered.branch [
      | in-Some w ↦ ready-more sel handed us u all (subst (λ (o : Option (Gathered _)). IsKept sel handed us o) (w.in-Some.is ∙ ap Some (sym w.all-is)) kept)
      | in-None+in_ok-all-in-None w ↦
          ready-first sel handed us u r all (subst (λ (o : Option (Gathered _)). IsKept sel handed us o) w.in-None.is kept) is
          (subst (λ (old : Gathered _). IsGathered r [] old) (sym w.all-is) w.in_ok-all-in-None.ensures)
    ] in
    gathers-more sel handed us u r all c.add.new.self c.in-Ok.field-0 is ready c.in-Ok.ensures
