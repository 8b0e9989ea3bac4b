use Rattle.std.proofs.Common.{◌≡◌, ◌⊎◌, ℕ, List, false, inl, inr, subst}
use Rattle.blog_source.specs.code.SourceView.{end_of, log_of}
use Rattle.blog_trans.specs.Selection.{selection_of}
use Rattle.undo_run.specs.Units.{IsMissing, are_found, have_units, ids_asked}
use Rattle.undo_run.proofs.Asked.{missing-not-found, without-units}
use Rattle.undo_run.proofs.written_part.missing.Goals.{in-Some, in-None+in-Some-first_missing}
use Rattle.undo_run.proofs.written_part.missing.Goals as goal

pub returns-in-Some-damage : goal.returns-in-Some-damage
returns-in-Some-damage g c =
    let sel = selection_of c.args.inside.now in
    let handed = log_of c.args.source.now in
    let end = end_of c.args.source.now in
    let places = c.args.asked.now.at.now in
    let asked = ids_asked c.args.asked.now.wanted in
    let lacks : (have_units places sel handed end ≡ false) ⊎ (are_found asked sel handed ≡ false) = elim c.match-first_without_unit.branch [
      | in-Some w ↦ inl (without-units places sel handed end w.in-Some.place w.in-Some.ensures)
      | in-None+in-Some-first_missing w ↦ inr (missing-not-found asked sel handed w.in-Some-first_missing.number (subst (λ (b : List ℕ). IsMissing asked sel b w.in-Some-first_missing.number) c.requires w.in-Some-first_missing.ensures))
    ] in
    (c.in-Some-damage.is, lacks)
