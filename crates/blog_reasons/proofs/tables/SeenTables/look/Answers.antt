use Rattle.std.proofs.Common.{◌≡◌, true, false, None, sym, ap, ◌∙◌}
use Rattle.std.specs.List.{list_any}
use Rattle.blog_event.specs.code.LogView.{log_bytes}
use Rattle.blog_event.proofs.Opened.{log-reads}
use Rattle.blog_trans.specs.Places.{placed}
use Rattle.blog_units.specs.code.Boundaries.{events_behind}
use Rattle.blog_choice.specs.code.Views.{choice_value}
use Rattle.blog_reasons.specs.Reasons.{tables_named}
use Rattle.blog_reasons.specs.code.TablesView.{is_same_named}
use Rattle.blog_reasons.proofs.SeenTables.{seeing-end, seeing-event, seeing-none, seeing-stopped}
use Rattle.blog_reasons.proofs.TablesNamed.{left-event, left-none, named-first}
use Rattle.blog_reasons.proofs.tables.SeenTables.look.Goals as goal

pub events-init : goal.events-init
events-init g c =
    let bytes = log_bytes c.args.log.now in
    let empty = c.with_hasher-known.ensures.empty in
    record {
      within = c.first-at.ensures.within;
      known = λ none q found. let clash : false ≡ true = sym (ap (list_any (is_same_named q)) empty) ∙ found in cc;
      seeing = λ ts are. seeing-none (choice_value c.args.choice.now) ts (tables_named bytes) _ (events_behind bytes c.first-at.result)
          (named-first bytes c.first-at.result (log-reads c.args.log.now None c.first-at.result c.first-at.ensures.event)) are;
    }

pub events-preserved : goal.events-preserved
events-preserved g c =
    let bytes = log_bytes c.args.log.now in
    let e = c.in-Ok.event in
    record {
      within = c.in-Ok.ensures.within;
      known = c.in_ok-look_at_event.ensures.known c.events.invariant.known;
      seeing = λ ts are.
          let s = c.events.invariant.seeing ts are in
          seeing-event (choice_value c.args.choice.now) _ c.events.self c.look_at_event.new.self (placed e) _ _ s
          (left-event bytes c.events.at e (sym c.in-Ok.ensures.event) c.in-Ok.ensures.pos c.in-Ok.ensures.size)
          (c.in_ok-look_at_event.ensures.seen s.done s.are c.events.invariant.known);
    }

pub returns-then-self : goal.returns-then-self
returns-then-self g c = λ ts are. seeing-stopped (choice_value c.args.choice.now) _ _ _ (c.events.invariant.seeing ts are) c.if-self.true

pub returns : goal.returns
returns g c = λ ts are.
    seeing-end (choice_value c.args.choice.now) _ _ _ (c.events.invariant.seeing ts are) (left-none (log_bytes c.args.log.now) c.events.at (sym c.in_default.ensures.event))
