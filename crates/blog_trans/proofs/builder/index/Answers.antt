use Rattle.std.proofs.Common.{◌≡◌, ◌∙◌, false, true, ◌+◌, ℕ, [], ap, inr, option_map, sym}
use Rattle.std.proofs.lemmas.Option.{same_Some}
use Rattle.blog_event.specs.Event.{Event, event_of, event_size}
use Rattle.blog_event.specs.code.LogView.{log_bytes}
use Rattle.blog_event.proofs.Opened.{log-opened, log-reads}
use Rattle.blog_trans.specs.Selection.{selection_of}
use Rattle.blog_trans.specs.Acceptance.{is_start_inside}
use Rattle.blog_trans.proofs.IndexCode.{walk-refused}
use Rattle.blog_trans.proofs.WalkCode.{inside-format}
use Rattle.blog_trans.proofs.builder.index.Goals as goal

pub returns-then-is_start_inside-clause-refused : goal.returns-then-is_start_inside-clause-refused
returns-then-is_start_inside-clause-refused g c =
    let bytes = log_bytes c.args.log.now in
    let sel = selection_of c.args.sel.now in
    let inside : is_start_inside sel (record { pos = 4; event = event_of c.format.result }) ≡ true =
    ap (λ (n : ℕ). is_start_inside sel (record { pos = n; event = event_of c.format.result })) (sym c.format.ensures.pos) ∙ sym c.is_start_inside.ensures ∙ c.if-is_start_inside.true in
    walk-refused bytes sel _ (log-opened c.args.log.now)
    (inr (inside-format bytes sel _ (event_of c.format.result) (log-reads c.args.log.now c.args.sel.now.stop _ (ap (option_map (λ e. 4 + event_size e)) c.format.ensures.event)) c.format.ensures.event inside))

pub index_from-requires : goal.index_from-requires
index_from-requires g c =
    let sel = selection_of c.args.sel.now in
    let reads = log-reads c.args.log.now c.args.sel.now.stop c.first.result c.first.ensures.event in
    let here : reads.first ≡ event_of c.format.result = same_Some reads.first (event_of c.format.result) (sym reads.stands ∙ c.format.ensures.event) in
    let out : is_start_inside sel (record { pos = 4; event = event_of c.format.result }) ≡ false =
    ap (λ (n : ℕ). is_start_inside sel (record { pos = n; event = event_of c.format.result })) (sym c.format.ensures.pos) ∙ sym c.is_start_inside.ensures ∙ c.if-is_start_inside.false in
    record {
      reached = record {
        first = reads.first;
        later = [];
        stands = reads.stands;
        outside = ap (λ (e : Event). is_start_inside sel (record { pos = 4; event = e })) here ∙ out;
        lead = reads.starts;
      };
    }
