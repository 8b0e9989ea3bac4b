-- At the log's end nothing is left; elsewhere one item and what is left behind it.
use Rattle.std.proofs.Common.{◌≡◌, ◌≢◌, ◌∙◌, [], ◌∷◌, length, refl, sym, ap, arith}
use Rattle.std.specs.Option.{option_map_or}
use Rattle.blog_event.specs.Items.{item_of, items_from}
use Rattle.blog_event.specs.code.LogView.{items_left, log_bytes}
use Rattle.blog_event.proofs.Items.{items-end, items-ok, items-err}
use Rattle.blog_event.proofs.events.EventsIterator.next.Goals as goal
use Rattle.blog_event.proofs.events.EventsIterator.next.Goals.{in-Ok, in_default}

pub returns-then-at-end-clause-steps : goal.returns-then-at-end-clause-steps
returns-then-at-end-clause-steps c = record {
  first = (
    ap (λ at. option_map_or (items_from (log_bytes c.args.self.now.log)) at []) c.in_ok-at.was
        ∙ items-end (log_bytes c.args.self.now.log) c.in_ok-at.at (omega arith),
    refl,
  );
  size = tt;
}

pub returns-clause-steps : goal.returns-clause-steps
returns-clause-steps c =
    let left : items_left c.args.self.now ≡ items_from (log_bytes c.args.self.now.log) c.in_ok-at.at =
    ap (λ at. option_map_or (items_from (log_bytes c.args.self.now.log)) at []) c.in_ok-at.was in
    let found = c.event_at-item.ensures in
    elim c.match-item.branch [
      | in-Ok w ↦
          let first =
          left ∙ items-ok (log_bytes c.args.self.now.log) c.in_ok-at.at c.event_at-item.result _ w.in-Ok.is found.event found.pos found.size
          ∙ ap (λ events. item_of c.event_at-item.result ∷ items_left events) (sym w.self-is) in
          record { first = first; size = found.size }
      | in_default w ↦
          let off : c.in_ok-at.at ≢ length (log_bytes c.args.self.now.log) = omega arith in
          let first =
          left ∙ items-err (log_bytes c.args.self.now.log) c.in_ok-at.at c.event_at-item.result _ w.in_default.is found.event found.fault off
          ∙ ap (λ events. item_of c.event_at-item.result ∷ items_left events) (sym w.self-is) in
          record { first = first; size = found.size }
    ]
