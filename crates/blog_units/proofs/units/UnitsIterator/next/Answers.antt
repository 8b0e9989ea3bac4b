use Rattle.std.proofs.Common.{refl}
use Rattle.blog_event.specs.code.LogView.{log_bytes}
use Rattle.blog_units.proofs.Stepping.{next-facts}
use Rattle.blog_units.proofs.units.UnitsIterator.next.Goals as goal

pub returns-clause-steps : goal.returns-clause-steps
returns-clause-steps c = record {
  first = next-facts (log_bytes c.args.self.now.log) c.args.self.now.at c.go_through-stop.result.0 c.in_ok-first.first c.in_ok-first.part c.with-known.result c.go_through-stop.result.1 c.go_through-stop.result.2
      c.unwrap_or.result _ c.is_whole.result c.in_ok-first.ensures.some c.go_through-stop.ensures.stopped c.with-known.ensures c.unwrap_or.ensures c.global_id.ensures c.is_whole.ensures;
  of_log = refl;
  log = refl;
}
