-- Each event that is kept is handed out; the reading ends where none is left.
use Rattle.std.proofs.Common.{◌≡◌, ◌+◌, ◌≤◌, ◌++◌, ◌∙◌, take, drop, sym, subst, ap, arith, inl, inr}
use Rattle.blog_event.specs.declared.event.Header.{Header}
use Rattle.std.specs.List.{flat_map}
use Rattle.blog_event.specs.Event.{event_text}
use Rattle.blog_event.specs.File.{end_of}
use Rattle.blog_source.specs.Found.{Found}
use Rattle.blog_source.specs.code.Walk.{moved}
use Rattle.blog_source.proofs.Left.{found-whole}
use Rattle.blog_source.proofs.Handing.{ended-text, kept-found, kept-put, passed-found, passed-put}
use Rattle.blog_source.proofs.walk.hand_out.Goals as goal

pub events-preserved-in-Keep : goal.events-preserved-in-Keep
events-preserved-in-Keep c =
    let kept = c.in-Keep.ensures in
    let put = c.put_kept-to.ensures in
    let old = c.events.invariant in
    let same = kept-found c.args.how c.args.sums c.events.bytes c.put_kept-to.new.bytes c.events.at c.in-Keep.header kept put.len put.behind in record {
      order = put.before;
      within = omega (arith, put.len, kept.within);
      len = put.len ∙ old.len;
      text = kept-put c.args.how c.args.form c.args.sums c.events.bytes c.put_kept-to.new.bytes c.events.at c.events.to c.put_kept-to.result c.in-Keep.header kept put.len put.behind put.end
          put.front ∙ old.text;
      fault = ap (λ (f : Found). f.fault) (sym same) ∙ old.fault;
      end = ap (λ (f : Found). f.end) (sym same) ∙ old.end;
      damaged = ap (λ (f : Found). c.events.damaged + f.damaged) (sym same) ∙ old.damaged;
      few = omega (arith, old.few);
    }

-- one that is passed over is handed out as a damaged one
pub events-preserved : goal.events-preserved
events-preserved c =
    let passed = c.in-PassOver.ensures in
    let put = c.put_kept-to-in-PassOver.ensures in
    let old = c.events.invariant in
    let header : Header = c.in-PassOver.header in
    let bytes = c.events.bytes in
    let new = c.put_kept-to-in-PassOver.new.bytes in
    let at = c.events.at in
    let to = c.events.to in
    let next = c.put_kept-to-in-PassOver.result in
    let is = c.damaged_header.ensures in
    let behind : drop (at + header.size) new ≡ drop (at + header.size) bytes = subst (λ (h : Header). drop (at + h.size) new ≡ drop (at + h.size) bytes) is put.behind in
    let front = subst (λ (h : Header). take next new ≡ take to bytes ++ flat_map event_text (moved c.args.form c.args.sums to at h bytes)) is put.front in
    let end = subst (λ (h : Header). next ≡ end_of to (moved c.args.form c.args.sums to at h bytes)) is put.end in
    let before : next ≤ at + header.size = subst (λ (h : Header). next ≤ at + h.size) is put.before in
    let same = passed-found c.args.how c.args.sums bytes new at header passed put.len behind in
    let counted = ap (λ (f : Found). f.damaged) same in record {
      order = before;
      within = omega (arith, put.len, passed.within);
      len = put.len ∙ old.len;
      text = passed-put c.args.how c.args.form c.args.sums bytes new at to next header passed put.len behind end front ∙ old.text;
      fault = ap (λ (f : Found). f.fault) (sym same) ∙ old.fault;
      end = ap (λ (f : Found). f.end) (sym same) ∙ old.end;
      damaged = omega (arith, counted, old.damaged);
      few = omega (arith, old.few, passed.header.size);
    }

pub returns-else-at-bytes-clause-text : goal.returns-else-at-bytes-clause-text
returns-else-at-bytes-clause-text c =
    let end = found-whole c.args.how c.args.sums c.events.bytes c.events.at (inr (omega (arith, c.events.invariant.within, c.if-at-bytes.false))) in
    sym (ended-text c.args.form c.args.sums c.events.to _ _ (ap (λ (f : Found). f.kept) end)) ∙ c.events.invariant.text

pub returns-else-at-bytes-clause-fault : goal.returns-else-at-bytes-clause-fault
returns-else-at-bytes-clause-fault c =
    let end = found-whole c.args.how c.args.sums c.events.bytes c.events.at (inr (omega (arith, c.events.invariant.within, c.if-at-bytes.false))) in
    ap (λ (f : Found). f.fault) (sym end) ∙ c.events.invariant.fault

pub returns-else-at-bytes-clause-end : goal.returns-else-at-bytes-clause-end
returns-else-at-bytes-clause-end c =
    let end = found-whole c.args.how c.args.sums c.events.bytes c.events.at (inr (omega (arith, c.events.invariant.within, c.if-at-bytes.false))) in
    ap (λ (f : Found). f.end) (sym end) ∙ c.events.invariant.end

pub returns-else-at-bytes-clause-damaged : goal.returns-else-at-bytes-clause-damaged
returns-else-at-bytes-clause-damaged c =
    let end = found-whole c.args.how c.args.sums c.events.bytes c.events.at (inr (omega (arith, c.events.invariant.within, c.if-at-bytes.false))) in
    let none = ap (λ (f : Found). f.damaged) end in
    omega (arith, none, c.events.invariant.damaged)

pub returns-after-events-clause-text : goal.returns-after-events-clause-text
returns-after-events-clause-text c =
    let end = found-whole c.args.how c.args.sums c.events.bytes c.events.at (inl (sym c.events-test.ensures)) in
    sym (ended-text c.args.form c.args.sums c.events.to _ _ (ap (λ (f : Found). f.kept) end)) ∙ c.events.invariant.text

pub returns-after-events-clause-fault : goal.returns-after-events-clause-fault
returns-after-events-clause-fault c =
    let end = found-whole c.args.how c.args.sums c.events.bytes c.events.at (inl (sym c.events-test.ensures)) in
    ap (λ (f : Found). f.fault) (sym end) ∙ c.events.invariant.fault

pub returns-after-events-clause-end : goal.returns-after-events-clause-end
returns-after-events-clause-end c =
    let end = found-whole c.args.how c.args.sums c.events.bytes c.events.at (inl (sym c.events-test.ensures)) in
    ap (λ (f : Found). f.end) (sym end) ∙ c.events.invariant.end

pub returns-after-events-clause-damaged : goal.returns-after-events-clause-damaged
returns-after-events-clause-damaged c =
    let end = found-whole c.args.how c.args.sums c.events.bytes c.events.at (inl (sym c.events-test.ensures)) in
    let none = ap (λ (f : Found). f.damaged) end in
    omega (arith, none, c.events.invariant.damaged)
