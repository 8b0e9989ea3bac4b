use Rattle.std.proofs.Common.{◌≡◌, ◌∙◌, true, ap, sym, subst, refl, rules, inl, inr}
use Rattle.std.proofs.lemmas.Result.{err_from_is_err_and}
use Rattle.blog_event.specs.Fault.{fault_at}
use Rattle.blog_row.specs.declared.event_kinds.EventKind.TheVariants as kind
use Rattle.blog_trans.specs.Selection.{selection_of}
use Rattle.blog_trans.specs.Places.{kind_at, is_inside, is_outside}
use Rattle.blog_trans.specs.Acceptance.{IsRefusal}
use Rattle.blog_trans.specs.code.Progress.{ended_if, progress}
use Rattle.blog_trans.specs.code.TablesView.{tables_known}
use Rattle.blog_trans.specs.code.BuilderView.{placed}
use Rattle.blog_trans.proofs.BuilderCode.{ended-counts}
use Rattle.blog_trans.proofs.BuilderSteps.{ended-before, ending, open-end, keeps-as, keeps-grown, walks-other, walks-quiet}
use Rattle.blog_trans.proofs.builder.IndexBuilder.step.Goals as goal

pub returns-in_ok-begin-in-Begin-2-clause-walks : goal.returns-in_ok-begin-in-Begin-2-clause-walks
returns-in_ok-begin-in-Begin-2-clause-walks g c = λ earlier w.
    let sel = selection_of c.args.sel.now in
    let is : kind_at (placed c.args.event.now) ≡ kind.Begin = sym c.event_kind.ensures ∙ c.in-Begin.is in
    let call = c.in_ok-begin-in-Begin.ensures in
    let (fits, knows) = call.checked sel _ is earlier w.checker in
    let grown = keeps-grown (progress sel earlier) c.args.self.now c.begin.new.self (inl (ap tables_known call.layouts)) w.keeps in
    let keeps = keeps-as _ _ _ (ended-before sel earlier (placed c.args.event.now) is (fits, w.passed)) grown in
    let lists = c.in_ok-begin-in-Begin-2.ensures.kept (progress sel earlier).done (placed c.args.event.now) refl keeps.lists in
    (fits, record { passed = (fits, w.passed); checker = knows; keeps = rw is (record { lists = lists; counts = keeps.counts }) })

pub returns-in_err-end-in-Commit-clause-walks : goal.returns-in_err-end-in-Commit-clause-walks
returns-in_err-end-in-Commit-clause-walks g c = λ earlier w.
    let sel = selection_of c.args.sel.now in
    let p = placed c.args.event.now in
    let e = ending sel earlier p (search rules) in
    let refused = c.in_err-end-in-Commit.ensures.checked sel p.event earlier e.ends w.checker in
    let exit = err_from_is_err_and c.from_residual-in_err-end-in-Commit.result c.from_residual-in_err-end-in-Commit.ensures.1 in
    rw (exit.1, exit.2) (subst (λ wanted. IsRefusal (fault_at p.pos wanted) c.in_err-end-in-Commit.field-0.0) (sym e.checks_are) refused)

pub returns-in_ok-end-in-Commit-2-clause-walks : goal.returns-in_ok-end-in-Commit-2-clause-walks
returns-in_ok-end-in-Commit-2-clause-walks g c = λ earlier w.
    let sel = selection_of c.args.sel.now in
    let p = placed c.args.event.now in
    let done = (progress sel earlier).done in
    let call = c.in_ok-end-in-Commit.ensures in
    let e = ending sel earlier p (search rules) in
    let (fits, knows) = call.checked sel p.event earlier e.ends w.checker in
    let (begin, inside, same) = open-end sel earlier w.passed fits in
    let keeps = keeps-as _ _ _ same (keeps-grown (progress sel earlier) c.args.self.now c.end.new.self (inl (ap tables_known call.layouts)) w.keeps) in
    let lists = c.in_ok-end-in-Commit-2.ensures.kept done begin inside p refl keeps.lists in
    let counts = ended-counts (tables_known c.end.new.self.layouts) c.args.self.now.counts done begin inside p keeps.counts in
    let kept = keeps-as _ _ _ (sym (e.progress_is ∙ ap (ended_if p) same)) (record { lists = lists; counts = counts }) in
    (e.checks_are ∙ fits, record { passed = (e.checks_are ∙ fits, w.passed); checker = knows; keeps = kept })

pub returns-in_ok-gtid-in-Gtid-clause-walks : goal.returns-in_ok-gtid-in-Gtid-clause-walks
returns-in_ok-gtid-in-Gtid-clause-walks g c = λ earlier w.
    let is : kind_at (placed c.args.event.now) ≡ kind.Gtid = sym c.event_kind.ensures ∙ c.in-Gtid.is in
    let call = c.in_ok-gtid-in-Gtid.ensures in
    walks-other c.args.self.now _ (selection_of c.args.sel.now) earlier _ (inl (ap tables_known call.layouts)) (λ k. rw is refl) (call.checked _ _ is earlier w.checker) w

pub returns-in_ok-take_map-in-TableMap-clause-walks : goal.returns-in_ok-take_map-in-TableMap-clause-walks
returns-in_ok-take_map-in-TableMap-clause-walks g c = λ earlier w.
    let is : kind_at (placed c.args.event.now) ≡ kind.TableMap = sym c.event_kind.ensures ∙ c.in-TableMap.is in
    let call = c.in_ok-take_map-in-TableMap.ensures in
    walks-other c.args.self.now _ (selection_of c.args.sel.now) earlier _ call.grown (λ k. rw is refl) (call.checked earlier w.checker) w

pub returns-in-Savepoint-clause-walks : goal.returns-in-Savepoint-clause-walks
returns-in-Savepoint-clause-walks g c = λ earlier w.
    let now : is_inside c.args.self.now.checker.place ≡ true = search rules in
    walks-quiet _ (selection_of c.args.sel.now) earlier _ kind.Savepoint (sym c.event_kind.ensures ∙ c.in-Savepoint.is) (rw (ap is_inside (sym w.checker.place_is) ∙ now) refl) refl refl refl refl (λ k. refl) w

pub returns-in-BetweenTransactions-clause-walks : goal.returns-in-BetweenTransactions-clause-walks
returns-in-BetweenTransactions-clause-walks g c = λ earlier w.
    let now : is_outside c.args.self.now.checker.place ≡ true = search rules in
    walks-quiet _ (selection_of c.args.sel.now) earlier _ kind.BetweenTransactions (sym c.event_kind.ensures ∙ c.in-BetweenTransactions.is) (rw (ap is_outside (sym w.checker.place_is) ∙ now) refl) refl refl refl refl (λ k. refl) w

pub returns-in-RowsQuery-clause-walks : goal.returns-in-RowsQuery-clause-walks
returns-in-RowsQuery-clause-walks g c = λ earlier w.
    elim c.in-RowsQuery.is [
      | inl text ↦ walks-quiet _ (selection_of c.args.sel.now) earlier _ kind.RowsQuery (sym c.event_kind.ensures ∙ text) refl refl refl refl refl (λ k. refl) w
      | inr skipped ↦ walks-quiet _ (selection_of c.args.sel.now) earlier _ kind.Skippable (sym c.event_kind.ensures ∙ skipped) refl refl refl refl refl (λ k. refl) w
    ]
