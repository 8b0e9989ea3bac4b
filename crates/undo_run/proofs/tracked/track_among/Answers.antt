use Rattle.std.proofs.Common.{◌≡◌, ℕ, ◌++◌, List, [], map, refl, length, ap, ◌∙◌}
use Rattle.blog_event.specs.code.LogView.{log_bytes}
use Rattle.blog_later.specs.Later.{later_units}
use Rattle.blog_later.specs.code.LookedView.{left_before}
use Rattle.blog_trans.specs.Selection.{selection_of}
use Rattle.blog_untouched.specs.Steps.{rows_in, taken_in, unit_step}
use Rattle.blog_untouched.specs.declared.rows.SelectedRow.{SelectedRow}
use Rattle.undo_run.proofs.tracked.track_among.Goals as goal

pub returns : goal.returns
returns g c p chosen =
    let bytes = log_bytes c.args.log.now in
    let steps = map (unit_step p (selection_of c.args.inside.now) bytes) (later_units bytes c.args.inside.now.start) in
    let prints : ℕ → List ℕ = λ k. (left_before c.args.left.now k).rows in
    let adds = c.in_ok-add_among.ensures p chosen in record {
      rows = adds.0 ∙ ap (λ (rs : List SelectedRow). rs ++ rows_in steps) c.none-record.ensures.rows;
      taken = adds.1 ∙ (λ i. c.none-record.ensures.taken i ++ taken_in prints 0 (length (c.none-record.ensures.rows i)) steps);
      same = refl;
      followed = λ asked. c.in_ok-followed.ensures p chosen asked;
    }
