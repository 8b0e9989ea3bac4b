use Rattle.std.proofs.Common.{◌≡◌, ◌≤◌, false, length, vec_len}
use Rattle.blog_split.specs.code.CutView.{IsSound, cut_to_come}
use Rattle.blog_split.proofs.cut_events.CutEvents.coming.Given as goal

abbrev pub invariant-maps : goal.invariant-maps
invariant-maps g l = record {
  sound : IsSound g.E.WrittenEvents.can_next g.E.WrittenEvents.to_come l.self;
  left : cut_to_come g.E.WrittenEvents.to_come l.self ≡ cut_to_come g.E.WrittenEvents.to_come l.fn.self;
  same_statement : l.self.is_last ≡ false;
  no_maps : vec_len l.self.used ≤ l.self.given;
  no_rows : l.self.rows ≡ 0;
}

abbrev pub decreases-maps : goal.decreases-maps
decreases-maps g l = length (g.E.WrittenEvents.to_come l.self.events)
