use Rattle.std.proofs.Common.{◌≡◌, ◌≢◌, ◌++◌, ℕ, List, [], ◌∷◌, length, length-append, append_assoc, Option, Some, None, Ok, Err, refl, sym, ap, subst, ◌∙◌, arith}
use Rattle.std.proofs.Math.Bool.{or-false}
use Rattle.std.specs.Vec.Iter.{into_iter_items}
use Rattle.jiff.specs.Words.{plain_zone}
use Rattle.std.specs.Io.KnownBytes.{Appends}
use Rattle.blog_device.specs.Devices.{AppendsBeginning}
use Rattle.blog_device.specs.Watched.{device_of}
use Rattle.blog_list.specs.Lines.{LogList}
use Rattle.blog_list.specs.Texts.{totals_of}
use Rattle.blog_list.specs.code.Totals.{AreTotals}
use Rattle.blog_list.specs.declared.listing.Form.{Form}
use Rattle.blog_list.specs.code.WriterView.{form_of, gtids_of, heading_of, zone_of}
use Rattle.blog_sum.specs.declared.fault.SumFault.{SumFault}
use Rattle.list_run.specs.Listed.{HasBegun, HasListed, Listing, ListsLogs}
use Rattle.list_run.specs.code.Turns.{listing_of}
use Rattle.list_run.specs.declared.given.GivenLog.{GivenLog}
use Rattle.list_run.proofs.Going.{all-taken, first-or-later, goes-on, none-begun, none-gone, stopped, stopped-after, whole}
use Rattle.list_run.proofs.One.{of-style}
use Rattle.list_run.proofs.listed.list_several.Goals as goal

pub returns-in-Err-clause-text : goal.returns-in-Err-clause-text
returns-in-Err-clause-text g c some =
    none-begun g.R.Read.remaining c.args.style.now.form (plain_zone c.args.style.now.zone) c.args.style.now.gtids (record { how = c.args.how; wanted = c.args.wanted.now; sorting = c.args.style.now.sorting; count = length c.args.logs.items }) c.args.logs.items
    (g.W.Write.contents (device_of c.args.writer.now))

pub returns-in-Err-list_one-clause-text : goal.returns-in-Err-list_one-clause-text
returns-in-Err-list_one-clause-text g c some =
    let at = c.logs in
    let listing : listing_of at.turn ≡ record { how = c.args.how; wanted = c.args.wanted.now; sorting = c.args.style.now.sorting; count = length c.args.logs.items } =
    at.invariant.listing ∙ ap (λ (n : ℕ). record { how = c.args.how; wanted = c.args.wanted.now; sorting = c.args.style.now.sorting; count = n }) (omega (arith, c.len.ensures)) in
    let lists = of-style g.R.Read.remaining c.args.style.now.form (form_of c.in-Ok.list) (plain_zone c.args.style.now.zone) (zone_of c.in-Ok.list) c.args.style.now.gtids (gtids_of c.in-Ok.list) (heading_of c.in-Ok.list) (listing_of at.turn) at.turn.n c.in-Some.given at.totals c.list_one.new.totals
    (g.W.Write.contents (device_of at.writer)) (g.W.Write.contents (device_of c.list_one.new.writer)) (Err c.in-Err-list_one.fault) c.in-Ok.ensures.form c.in-Ok.ensures.zone c.in-Ok.ensures.gtids c.in-Err-list_one.ensures.text in
    subst (λ (l : Listing). ListsLogs g.R.Read.remaining c.args.style.now.form (plain_zone c.args.style.now.zone) c.args.style.now.gtids l c.args.logs.items (g.W.Write.contents (device_of c.args.writer.now))
    (g.W.Write.contents (device_of c.list_one.new.writer)) (Err (at.turn.n, c.in-Err-list_one.fault))) listing
    (stopped g.R.Read.remaining c.args.style.now.form _ _ (heading_of c.in-Ok.list) (listing_of at.turn) at.yielded c.in-Some.given (into_iter_items c.next.new.self) c.args.logs.items at.turn.n at.end at.totals c.list_one.new.totals (g.W.Write.contents (device_of c.args.writer.now)) (g.W.Write.contents (device_of at.writer)) (g.W.Write.contents (device_of c.list_one.new.writer)) c.in-Err-list_one.fault
    c.in-Ok.ensures.heading (ap (λ (xs : List (GivenLog _)). at.yielded ++ xs) (sym c.in-Some.ensures.steps.0) ∙ at.invariant.rest) at.invariant.number at.invariant.going lists)

pub returns-in-Err-list_one-clause-unwritten : goal.returns-in-Err-list_one-clause-unwritten
returns-in-Err-list_one-clause-unwritten g c =
    let at = c.logs in
    let more = ap length at.invariant.rest in
    let next = ap length c.in-Some.ensures.steps.0 in
    first-or-later _ _ _ at.turn.n (length c.args.logs.items)
    (omega (arith, more, next, at.invariant.number, length-append at.yielded (into_iter_items at.given-iterator))) at.invariant.first c.in-Err-list_one.ensures.unwritten

pub logs-preserved : goal.logs-preserved
logs-preserved g c =
    let at = c.logs in
    let steps : into_iter_items at.given-iterator ≡ c.in-Some.given ∷ into_iter_items c.next.new.self = c.in-Some.ensures.steps.0 in record {
      mark = (rw or-false at c.in-Ok-list_one.ensures.mark) ∙ at.invariant.mark;
      number = omega (arith, at.invariant.number, length-append at.yielded (c.in-Some.given ∷ []));
      rest = append_assoc at.yielded (c.in-Some.given ∷ []) (into_iter_items c.next.new.self) ∙ ap (λ (xs : List (GivenLog _)). at.yielded ++ xs) (sym steps) ∙ at.invariant.rest;
      left =
          let was = at.invariant.left in
          let gone = c.in-Some.ensures.steps.1 in
          let short = ap length steps in
          omega (arith, was, gone, short);
      listing = at.invariant.listing;
      first = λ zero. absurd (omega (arith, zero));
      going = goes-on g.R.Read.remaining c.args.style.now.form _ _ (heading_of c.in-Ok.list) (listing_of at.turn) at.yielded c.in-Some.given at.turn.n at.end c.earlier-end.result _ _ _ _ _ c.in-Ok-list_one.fault
          c.earlier-end.ensures at.invariant.going
          (of-style g.R.Read.remaining c.args.style.now.form (form_of c.in-Ok.list) (plain_zone c.args.style.now.zone) (zone_of c.in-Ok.list) c.args.style.now.gtids (gtids_of c.in-Ok.list) (heading_of c.in-Ok.list) (listing_of at.turn) at.turn.n c.in-Some.given at.totals c.list_one.new.totals
          (g.W.Write.contents (device_of at.writer)) (g.W.Write.contents (device_of c.list_one.new.writer)) (Ok c.in-Ok-list_one.fault) c.in-Ok.ensures.form c.in-Ok.ensures.zone c.in-Ok.ensures.gtids c.in-Ok-list_one.ensures.text);
    }

pub returns-in-Err-write_totals-clause-text : goal.returns-in-Err-write_totals-clause-text
returns-in-Err-write_totals-clause-text g c some =
    let at = c.logs in
    let all = all-taken at.yielded (into_iter_items at.given-iterator) c.args.logs.items at.invariant.rest (at.invariant.left ∙ c.in-None.ensures.steps.0) in
    let listing : listing_of at.turn ≡ record { how = c.args.how; wanted = c.args.wanted.now; sorting = c.args.style.now.sorting; count = length c.args.logs.items } =
    at.invariant.listing ∙ ap (λ (n : ℕ). record { how = c.args.how; wanted = c.args.wanted.now; sorting = c.args.style.now.sorting; count = n }) (omega (arith, c.len.ensures)) in
    subst (λ (l : Listing). HasBegun g.R.Read.remaining c.args.style.now.form (plain_zone c.args.style.now.zone) c.args.style.now.gtids l c.args.logs.items (g.W.Write.contents (device_of c.args.writer.now))
    (g.W.Write.contents (device_of c.write_totals.new.writer))) listing
    (stopped-after g.R.Read.remaining c.args.style.now.form (plain_zone c.args.style.now.zone) c.args.style.now.gtids (heading_of c.in-Ok.list) (listing_of at.turn) at.yielded c.args.logs.items at.turn.n at.end at.totals _ _ _
    c.in-Ok.ensures.heading all (λ zero. omega (arith, some, zero, at.invariant.number, ap length all)) at.invariant.going (subst (λ (f : Form). (ls : List LogList) → AreTotals at.totals ls → AppendsBeginning (g.W.Write.contents (device_of at.writer)) (g.W.Write.contents (device_of c.write_totals.new.writer)) (totals_of f ls)) c.in-Ok.ensures.form c.in-Err-write_totals.ensures.beginning))

pub returns-in-Some-end-clause-text : goal.returns-in-Some-end-clause-text
returns-in-Some-end-clause-text g c some =
    let at = c.logs in
    let all = all-taken at.yielded (into_iter_items at.given-iterator) c.args.logs.items at.invariant.rest (at.invariant.left ∙ c.in-None.ensures.steps.0) in
    let listing : listing_of at.turn ≡ record { how = c.args.how; wanted = c.args.wanted.now; sorting = c.args.style.now.sorting; count = length c.args.logs.items } =
    at.invariant.listing ∙ ap (λ (n : ℕ). record { how = c.args.how; wanted = c.args.wanted.now; sorting = c.args.style.now.sorting; count = n }) (omega (arith, c.len.ensures)) in
    subst (λ (l : Listing). HasListed g.R.Read.remaining c.args.style.now.form (plain_zone c.args.style.now.zone) c.args.style.now.gtids l c.args.logs.items (Some (c.in-Some-end.n, c.in-Some-end.fault)) (g.W.Write.contents (device_of c.args.writer.now))
    (g.W.Write.contents (device_of c.write_totals.new.writer))) listing
    (whole g.R.Read.remaining c.args.style.now.form (plain_zone c.args.style.now.zone) c.args.style.now.gtids (heading_of c.in-Ok.list) (listing_of at.turn) at.yielded c.args.logs.items at.turn.n at.end (Some (c.in-Some-end.n, c.in-Some-end.fault)) at.totals _ _ _
    c.in-Ok.ensures.heading all c.in-Some-end.is (λ zero. omega (arith, some, zero, at.invariant.number, ap length all)) at.invariant.going (subst (λ (f : Form). (ls : List LogList) → AreTotals at.totals ls → Appends (g.W.Write.contents (device_of at.writer)) (g.W.Write.contents (device_of c.write_totals.new.writer)) (totals_of f ls)) c.in-Ok.ensures.form c.in-Ok-write_totals.ensures.text))

pub returns-clause-text : goal.returns-clause-text
returns-clause-text g c some =
    let at = c.logs in
    let all = all-taken at.yielded (into_iter_items at.given-iterator) c.args.logs.items at.invariant.rest (at.invariant.left ∙ c.in-None.ensures.steps.0) in
    let listing : listing_of at.turn ≡ record { how = c.args.how; wanted = c.args.wanted.now; sorting = c.args.style.now.sorting; count = length c.args.logs.items } =
    at.invariant.listing ∙ ap (λ (n : ℕ). record { how = c.args.how; wanted = c.args.wanted.now; sorting = c.args.style.now.sorting; count = n }) (omega (arith, c.len.ensures)) in
    subst (λ (l : Listing). HasListed g.R.Read.remaining c.args.style.now.form (plain_zone c.args.style.now.zone) c.args.style.now.gtids l c.args.logs.items None (g.W.Write.contents (device_of c.args.writer.now))
    (g.W.Write.contents (device_of c.write_totals.new.writer))) listing
    (whole g.R.Read.remaining c.args.style.now.form (plain_zone c.args.style.now.zone) c.args.style.now.gtids (heading_of c.in-Ok.list) (listing_of at.turn) at.yielded c.args.logs.items at.turn.n at.end None at.totals _ _ _
    c.in-Ok.ensures.heading all c.in-None-end.is (λ zero. omega (arith, some, zero, at.invariant.number, ap length all)) at.invariant.going (subst (λ (f : Form). (ls : List LogList) → AreTotals at.totals ls → Appends (g.W.Write.contents (device_of at.writer)) (g.W.Write.contents (device_of c.write_totals.new.writer)) (totals_of f ls)) c.in-Ok.ensures.form c.in-Ok-write_totals.ensures.text))
