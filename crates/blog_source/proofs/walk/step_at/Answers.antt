-- An event that passes its check is kept.
use Rattle.std.proofs.Common.{refl, sym}
use Rattle.blog_event.specs.Event.{event_of}
use Rattle.blog_source.proofs.Left.{check-is, found-kept}
use Rattle.blog_source.proofs.walk.step_at.Goals as goal

pub returns-in-Ok : goal.returns-in-Ok
returns-in-Ok c =
    let there = c.in-Ok.ensures in
    let fine = check-is c.args.sums c.args.bytes.now c.args.at (event_of c.in-Ok.event) _ there.event (sym there.exact) in record {
      event = event_of c.in-Ok.event;
      stands = there.event;
      header = record { size = there.size; timestamp = refl; kind = refl; server_id = refl; flags = refl };
      within = there.within;
      passes = fine;
      found = found-kept c.args.how c.args.sums c.args.bytes.now c.args.at (event_of c.in-Ok.event) c.requires.below there.event fine;
    }
