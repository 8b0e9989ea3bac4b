-- An event is passed over where three tests hold, else the reading ends there.
use Rattle.std.proofs.Common.{◌≡◌, ℕ, ◌+◌, ◌∙◌, Some, refl, sym, ap, drop, length}
use Rattle.std.proofs.lemmas.Option.{same_Some}
use Rattle.blog_event.specs.Event.{event_of, event_size}
use Rattle.blog_source.specs.Found.{begins_right, is_wrong_sum}
use Rattle.blog_source.specs.code.Walk.{left}
use Rattle.blog_source.proofs.Left.{check-is, first-fails, found-passed, found-refused, second-fails, third-fails}
use Rattle.blog_source.proofs.walk.step_at_fault.Goals as goal
use Rattle.blog_source.proofs.walk.step_at_fault.Goals.{else-how-via-then-how+else-is_wrong_sum, else-how-via-else-how}

pub returns-then-begins_right : goal.returns-then-begins_right
returns-then-begins_right c =
    let there = c.in-Some.ensures in record {
      event = event_of c.in-Some.event;
      fault = c.args.fault;
      stands = sym there.event;
      header = record { size = there.size; timestamp = refl; kind = refl; server_id = refl; flags = refl };
      within = there.within;
      fails = check-is c.args.sums c.args.bytes.now c.args.at (event_of c.in-Some.event) (Some c.args.fault) (sym there.event) c.requires.fails;
      wrong = sym c.if-is_wrong_sum.ensures;
      found = found-passed c.args.how c.args.sums c.args.bytes.now c.args.at (event_of c.in-Some.event) c.in-Some.event.header.size c.args.fault c.requires.below (sym there.event) there.size
          c.requires.fails c.if-how.true (sym c.if-is_wrong_sum.ensures) (sym c.if-begins_right.ensures);
    }

pub returns-else-begins_right : goal.returns-else-begins_right
returns-else-begins_right c =
    let there = c.in-Some.ensures in
    found-refused c.args.how c.args.sums c.args.bytes.now c.args.at c.args.fault c.requires.before c.requires.below c.requires.fails
    (λ e stands.
    let same : event_of c.in-Some.event ≡ e = same_Some (event_of c.in-Some.event) e (there.event ∙ stands) in
    let size : event_size e ≡ c.in-Some.event.header.size = ap event_size (sym same) ∙ sym there.size in
    third-fails c.args.how.skip_damaged (is_wrong_sum (Some c.args.fault)) _
    (ap (λ (size : ℕ). begins_right (left c.args.how.stop (length c.args.bytes.now) (c.args.at + size) (drop (c.args.at + size) c.args.bytes.now))) size
    ∙ sym c.if-begins_right.ensures))

pub returns-else-how : goal.returns-else-how
returns-else-how c =
    found-refused c.args.how c.args.sums c.args.bytes.now c.args.at c.args.fault c.requires.before c.requires.below c.requires.fails
    (λ e stands.
    elim c.else-how.branch [
      | else-how-via-then-how+else-is_wrong_sum w ↦ second-fails c.args.how.skip_damaged (is_wrong_sum (Some c.args.fault)) _ (sym w.if-is_wrong_sum.ensures)
      | else-how-via-else-how w ↦ first-fails c.args.how.skip_damaged (is_wrong_sum (Some c.args.fault)) _ w.if-how.false
    ])
