use Rattle.std.proofs.Common.{refl}
use Rattle.undo_run.proofs.tracked.track_if.Goals as goal

pub returns : goal.returns
returns g c asked = record {
  rows = c.in_ok-add_later.ensures.rows;
  taken = c.in_ok-add_later.ensures.taken;
  follows = refl;
  followed = λ on. c.in_ok-keep_if.ensures on;
}
