-- What is read stands in the bytes, and what stands there is read.
use Rattle.std.proofs.Common.{ℕ, List, drop, ap, ◌∙◌}
use Rattle.blog_event.specs.Event.{event_size, event_at}
use Rattle.blog_event.specs.File.{AreBytes, ReadsEvent}
use Rattle.blog_event.proofs.laws.reading_an_event_is_exact.Goals as goal
use Rattle.blog_event.proofs.Framing.{bytes-drop, event-again, event-found}

reads-event : (bytes : List ℕ) (at : ℕ) → AreBytes bytes → ReadsEvent bytes at
reads-event bytes at are = record {
  found = λ e read. let front = event-found (drop at bytes) e (bytes-drop at bytes are) read in (front.0, (drop (event_size e) (drop at bytes), front.1));
  only = λ e stands. ap event_at stands.1.1 ∙ event-again e stands.1.0 stands.0;
}

pub returns : goal.returns
returns c = record { exact = reads-event }
