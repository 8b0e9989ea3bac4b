use Rattle.std.proofs.Common.{◌≡◌}
use Rattle.blog_device.specs.Watched.{device_of, has_failed}
use Rattle.blog_list.proofs.InOrder.{ArePut}
use Rattle.blog_list.specs.code.Ranked.{AreInside}
use Rattle.blog_list.proofs.ranking.Ranking.put_lines.Given as goal

-- no write has failed; the lines are sorted, and those in front of number n are written or held
abbrev pub invariant-loop-n : goal.invariant-loop-n
invariant-loop-n g l = record {
  mark : has_failed l.writer ≡ has_failed l.fn.writer;
  inside : AreInside l.self.held.items l.self.lines.items;
  put : ArePut l.fn.self.held.items l.fn.self.lines.items l.self.held.items l.self.lines.items l.n (g.O.Write.contents (device_of l.fn.writer)) (g.O.Write.contents (device_of l.writer)) l.fn.text.items l.text.items;
}
