-- By the algorithm that the format description says.
use Rattle.std.proofs.Common.{ℕ, ◌+◌, ◌∙◌, ap, arith, sym}
use Rattle.std.specs.Prelude.{◌==◌}
use Rattle.blog_event.specs.Event.{event_of}
use Rattle.blog_sum.proofs.Walk.{algorithm-is, front-long, front-marked}
use Rattle.blog_source.proofs.Tails.{front-text}
use Rattle.blog_source.proofs.front.read_front.Goals as goal

pub check_format_sum-requires-clause-long : goal.check_format_sum-requires-clause-long
check_format_sum-requires-clause-long c =
    let there = c.in_ok-format.ensures in
    let long = front-long c.args.bytes.now (event_of c.in_ok-format.format) (sym there.exact) there.event in
    omega (arith, long, there.size)

pub returns-in-0-clause-front : goal.returns-in-0-clause-front
returns-in-0-clause-front c =
    let there = c.in_ok-format.ensures in
    let mark = front-marked c.args.bytes.now (sym there.exact) in
    let none = algorithm-is c.args.bytes.now (event_of c.in_ok-format.format) c.in_ok-format.algorithm there.event there.algorithm ∙ c.in-0.is in record {
      format = event_of c.in_ok-format.format;
      opened = sym there.exact;
      short = there.short;
      mark = mark;
      stands = there.event;
      long = front-long c.args.bytes.now (event_of c.in_ok-format.format) (sym there.exact) there.event;
      sums = sym (ap (λ (algorithm : ℕ). algorithm == 1) none);
      first = ap (λ (size : ℕ). 4 + size) there.size;
      within = there.within;
      text = front-text c.args.bytes.now (event_of c.in_ok-format.format) _ (λ i. omega (arith, c.type_inv.bytes i)) mark there.event (ap (λ (size : ℕ). 4 + size) there.size);
    }

pub returns-in_ok-check_format_sum-in-1-clause-front : goal.returns-in_ok-check_format_sum-in-1-clause-front
returns-in_ok-check_format_sum-in-1-clause-front c =
    let there = c.in_ok-format.ensures in
    let mark = front-marked c.args.bytes.now (sym there.exact) in
    let one = algorithm-is c.args.bytes.now (event_of c.in_ok-format.format) c.in_ok-format.algorithm there.event there.algorithm ∙ c.in-1.is in record {
      format = event_of c.in_ok-format.format;
      opened = sym there.exact;
      short = there.short;
      mark = mark;
      stands = there.event;
      long = front-long c.args.bytes.now (event_of c.in_ok-format.format) (sym there.exact) there.event;
      sums = sym (ap (λ (algorithm : ℕ). algorithm == 1) one);
      first = ap (λ (size : ℕ). 4 + size) there.size;
      within = there.within;
      text = front-text c.args.bytes.now (event_of c.in_ok-format.format) _ (λ i. omega (arith, c.type_inv.bytes i)) mark there.event (ap (λ (size : ℕ). 4 + size) there.size);
    }
