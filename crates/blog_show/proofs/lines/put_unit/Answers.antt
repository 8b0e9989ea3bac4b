use Rattle.std.proofs.Common.{List, ℕ, ap, refl, subst, sym, ◌∙◌}
use Rattle.blog_choice.specs.code.Views.{choice_value}
use Rattle.blog_list.specs.code.Told.{source_place}
use Rattle.blog_trans.specs.code.GroupEventsView.{events_left}
use Rattle.blog_trans.specs.code.InTurn.{GroupEvent}
use Rattle.blog_show.specs.Shown.{ShowsEvents}
use Rattle.blog_show.proofs.lines.put_unit.Goals as goal

pub loop-event-init : goal.loop-event-init
loop-event-init g c =
    let all = ap events_left c.into_iter-event-iterator.ensures.into_iter_gives ∙ c.in_turn-event-items.ensures in
    record {
      next = tt;
      finite = tt;
      shown = λ new s. subst (λ (es : List GroupEvent). ShowsEvents c.args.style.now.form (choice_value c.args.choice.now) (source_place c.args.source.now) es c.args.out.now.items new) all s;
    }

pub loop-event-preserved : goal.loop-event-preserved
loop-event-preserved g c = record {
  next = tt;
  finite = tt;
  shown = λ new s.
      c.loop-event.invariant.shown new (subst (λ (es : List GroupEvent). ShowsEvents c.args.style.now.form (choice_value c.args.choice.now) (source_place c.args.source.now) es c.loop-event.out.items new)
      (sym c.in-Some.ensures.steps.first) (_, c.in_ok-put_event.ensures, s));
}
