-- One event after another.
use Rattle.std.proofs.Common.{List, ℕ, ◌++◌, ◌+◌, ◌∙◌, ap, drop, sym, refl}
use Rattle.blog_event.specs.Event.{Event, event_of}
use Rattle.blog_source.proofs.Appending.{moved-more, moved-none, moved_left, short-more}
use Rattle.blog_source.proofs.append.put_moved.Goals as goal

pub events-init : goal.events-init
events-init g c = record { text = refl; short = λ short. short }

pub events-preserved : goal.events-preserved
events-preserved g c =
    let e : Event = event_of c.in-Some.event in
    let stands = sym c.in-Some.ensures.event in record {
      text =
          ap (λ (items : List ℕ). items ++ moved_left c.args.start c.args.log.now (c.events.at + c.in-Some.event.header.size)) (c.in_ok-put_event.ensures)
          ∙ moved-more c.args.start c.args.log.now c.events.out.items c.events.at e c.in-Some.event.header c.in-Some-checked_add.place stands c.in-Some.ensures.size c.in-Some-checked_add.ensures.1 refl
          refl refl refl
          ∙ c.events.invariant.text;
      short = λ short. (short-more c.args.start c.args.log.now c.events.at c.in-Some.event.header.size e stands c.in-Some.ensures.size (c.events.invariant.short short)).1;
    }

pub returns : goal.returns
returns g c = record {
  text = sym (moved-none c.args.start c.args.log.now c.events.out.items c.events.at (sym c.in_default.ensures.event)) ∙ c.events.invariant.text;
  refused = tt;
}

-- a place that isn't short
pub returns-in_default-checked_add-clause-refused : goal.returns-in_default-checked_add-clause-refused
returns-in_default-checked_add-clause-refused g c short =
    let e : Event = event_of c.in-Some.event in
    c.in_default-checked_add.ensures
    (short-more c.args.start c.args.log.now c.events.at c.in-Some.event.header.size e (sym c.in-Some.ensures.event) c.in-Some.ensures.size (c.events.invariant.short short)).0
