use Rattle.std.proofs.Common.{◌∙◌, inr}
use Rattle.std.proofs.lemmas.List.{append-nil}
use Rattle.std.proofs.lemmas.Result.{err_from_is_err_and}
use Rattle.blog_event.specs.code.LogView.{log_bytes}
use Rattle.blog_event.proofs.Opened.{log-opened}
use Rattle.blog_trans.specs.Selection.{selection_of}
use Rattle.blog_trans.proofs.IndexCode.{walk-refused}
use Rattle.blog_trans.proofs.WalkCode.{end-is-fault, keeps-groups}
use Rattle.blog_trans.proofs.Shown.{shows-each-once}
use Rattle.blog_trans.proofs.builder.index_from.Goals as goal

pub walk-requires-clause-walks : goal.walk-requires-clause-walks
walk-requires-clause-walks g c = c.new-builder.ensures.walks (selection_of c.args.sel.now)

pub returns-in_err-at-clause-refused : goal.returns-in_err-at-clause-refused
returns-in_err-at-clause-refused g c =
    let exit = err_from_is_err_and c.from_residual.result c.from_residual.ensures.1 in
    rw (exit.1, exit.2) (walk-refused (log_bytes c.args.log.now) (selection_of c.args.sel.now) c.in_err-at.field-0.0 (log-opened c.args.log.now) c.in_err-at.ensures.through)

pub returns-in_err-check_end-clause-refused : goal.returns-in_err-check_end-clause-refused
returns-in_err-check_end-clause-refused g c =
    let exit = err_from_is_err_and c.from_residual-in_err-check_end.result c.from_residual-in_err-check_end.ensures.1 in
    rw (exit.1, exit.2) (inr (end-is-fault (log_bytes c.args.log.now) (selection_of c.args.sel.now) c.end.result c.in_ok-at.at c.walk.new.self (log-opened c.args.log.now) c.end.ensures.len c.in_ok-at.ensures.through
    ∙ c.in_err-check_end.ensures))

pub invariant_of-result : goal.invariant_of-result
invariant_of-result g c =
    let bytes = log_bytes c.args.log.now in
    let sel = selection_of c.args.sel.now in
    let accepted = end-is-fault bytes sel c.end.result c.in_ok-at.at c.walk.new.self (log-opened c.args.log.now) c.end.ensures.len c.in_ok-at.ensures.through ∙ c.in_ok-check_end.ensures in
    let keeps = keeps-groups bytes sel c.in_ok-at.at c.walk.new.self c.in_ok-at.ensures.through accepted in
    record { accepted = accepted; entries_are = keeps.lists.shows.entries_are ∙ append-nil _; transactions_are = keeps.lists.shows.transactions_are; statements_are = keeps.lists.shows.statements_are ∙ append-nil _; tallied = keeps.counts }

pub returns-clause-shown : goal.returns-clause-shown
returns-clause-shown g c =
    shows-each-once (log_bytes c.args.log.now) (selection_of c.args.sel.now)
    (end-is-fault (log_bytes c.args.log.now) (selection_of c.args.sel.now) c.end.result c.in_ok-at.at c.walk.new.self (log-opened c.args.log.now) c.end.ensures.len c.in_ok-at.ensures.through
    ∙ c.in_ok-check_end.ensures)
