use Rattle.std.proofs.Common.{None, List, map, sym, ap}
use Rattle.blog_event.specs.code.LogView.{log_bytes}
use Rattle.blog_event.proofs.Opened.{log-opened, log-reads}
use Rattle.blog_units.specs.Units.{Unit, facts_of}
use Rattle.blog_units.proofs.Behind.{behind-first, boundary-first}
use Rattle.blog_units.proofs.units.Units.new.Goals as goal

pub invariant_of-result : goal.invariant_of-result
invariant_of-result c = record {
  boundary = boundary-first (log_bytes c.args.log.now) c.first.result None (log-opened c.args.log.now) (log-reads c.args.log.now None c.first.result c.first.ensures.event);
}

pub returns-clause-units : goal.returns-clause-units
returns-clause-units c = ap (λ (us : List Unit). map facts_of us) (sym (behind-first (log_bytes c.args.log.now) c.first.result (log-reads c.args.log.now None c.first.result c.first.ensures.event)))
