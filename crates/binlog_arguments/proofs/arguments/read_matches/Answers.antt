use Rattle.std.proofs.Common.{◌≡◌, ◌∙◌, Some, ap, arith, codes, inl, inr, sym}
use Rattle.std.proofs.lemmas.Result.{err_from_is_err_and}
use Rattle.std.proofs.lemmas.Slice.Eq.{bytes_eq-Decides}
use Rattle.clap.specs.Words.{found_of, subcommand_name_of}
use Rattle.binlog_arguments.specs.declared.arguments.Making.TheVariants.{Changes}
use Rattle.binlog_arguments.proofs.arguments.read_matches.Goals as goal

pub returns-in-Some-clause-read : goal.returns-in-Some-clause-read
returns-in-Some-clause-read g c =
    let named : subcommand_name_of c.args.matches.now ≡ Some (codes "plain") = grind (arith, c.in-Some.ensures.name, c.if-eq.ensures, (bytes_eq-Decides c.in-Some.name.now (codes "plain")).0) in
    inl (named, (found_of c.in-Some.found.now, sym c.in-Some.ensures.rows, (c.read_task.ensures.task, c.read_task.ensures.making)))

pub returns-in_ok-size-in-Some-2-clause-read : goal.returns-in_ok-size-in-Some-2-clause-read
returns-in_ok-size-in-Some-2-clause-read g c =
    let named : subcommand_name_of c.args.matches.now ≡ Some (codes "split") = grind (arith, c.in-Some-2.ensures.name, c.if-eq-2.ensures, (bytes_eq-Decides c.in-Some-2.name.now (codes "split")).0) in
    inr (
      named,
      (
        found_of c.in-Some.found.now,
        sym c.in-Some.ensures.rows,
        (c.read_task-in-Some-2.ensures.task, (c.in_ok-size-in-Some-2.size, c.in_ok-size-in-Some-2.ensures.size, c.read_task-in-Some-2.ensures.making ∙ ap Changes c.as_log.ensures)),
      ),
    )

pub returns-in_err-size-in-Some-2-clause-read : goal.returns-in_err-size-in-Some-2-clause-read
returns-in_err-size-in-Some-2-clause-read g c =
    let named : subcommand_name_of c.args.matches.now ≡ Some (codes "split") = grind (arith, c.in-Some-2.ensures.name, c.if-eq-2.ensures, (bytes_eq-Decides c.in-Some-2.name.now (codes "split")).0) in
    let p = err_from_is_err_and c.from_residual.result c.from_residual.ensures.1 in
    rw (p.1, p.2) (inr (inl (named, (found_of c.in-Some.found.now, sym c.in-Some.ensures.rows, c.in_err-size-in-Some-2.ensures.wrong))))

pub returns-in_ok-read_sql-in-Some-3-clause-read : goal.returns-in_ok-read_sql-in-Some-3-clause-read
returns-in_ok-read_sql-in-Some-3-clause-read g c =
    let named : subcommand_name_of c.args.matches.now ≡ Some (codes "sql") = grind (arith, c.in-Some-3.ensures.name, c.if-eq-3.ensures, (bytes_eq-Decides c.in-Some-3.name.now (codes "sql")).0) in
    (named, (found_of c.in-Some.found.now, sym c.in-Some.ensures.rows, c.in_ok-read_sql-in-Some-3.ensures.asked))

pub returns-in_err-read_sql-in-Some-3-clause-read : goal.returns-in_err-read_sql-in-Some-3-clause-read
returns-in_err-read_sql-in-Some-3-clause-read g c =
    let named : subcommand_name_of c.args.matches.now ≡ Some (codes "sql") = grind (arith, c.in-Some-3.ensures.name, c.if-eq-3.ensures, (bytes_eq-Decides c.in-Some-3.name.now (codes "sql")).0) in
    let p = err_from_is_err_and c.from_residual-in_err-read_sql-in-Some-3.result c.from_residual-in_err-read_sql-in-Some-3.ensures.1 in
    rw (p.1, p.2) (inr (inr (inl (named, (found_of c.in-Some.found.now, sym c.in-Some.ensures.rows, c.in_err-read_sql-in-Some-3.ensures.refused)))))

pub returns-in_ok-read_list-in-Some-4-clause-read :
    goal.returns-in_ok-read_list-in-Some-4-clause-read
returns-in_ok-read_list-in-Some-4-clause-read g c =
    let named : subcommand_name_of c.args.matches.now ≡ Some (codes "list") = grind (arith, c.in-Some-4.ensures.name, c.if-eq-4.ensures, (bytes_eq-Decides c.in-Some-4.name.now (codes "list")).0) in
    (named, (found_of c.in-Some.found.now, sym c.in-Some.ensures.rows, c.in_ok-read_list-in-Some-4.ensures.asked))

pub returns-in_err-read_list-in-Some-4-clause-read :
    goal.returns-in_err-read_list-in-Some-4-clause-read
returns-in_err-read_list-in-Some-4-clause-read g c =
    let named : subcommand_name_of c.args.matches.now ≡ Some (codes "list") = grind (arith, c.in-Some-4.ensures.name, c.if-eq-4.ensures, (bytes_eq-Decides c.in-Some-4.name.now (codes "list")).0) in
    let p = err_from_is_err_and c.from_residual-in_err-read_list-in-Some-4.result c.from_residual-in_err-read_list-in-Some-4.ensures.1 in
    rw (p.1, p.2) (inl (named, (found_of c.in-Some.found.now, sym c.in-Some.ensures.rows, c.in_err-read_list-in-Some-4.ensures.refused)))

pub returns-in_ok-read_show-in-Some-5-clause-read :
    goal.returns-in_ok-read_show-in-Some-5-clause-read
returns-in_ok-read_show-in-Some-5-clause-read g c =
    let named : subcommand_name_of c.args.matches.now ≡ Some (codes "show") = grind (arith, c.in-Some-5.ensures.name, c.if-eq-5.ensures, (bytes_eq-Decides c.in-Some-5.name.now (codes "show")).0) in
    (named, (found_of c.in-Some.found.now, sym c.in-Some.ensures.rows, c.in_ok-read_show-in-Some-5.ensures.asked))

pub returns-in_err-read_show-in-Some-5-clause-read :
    goal.returns-in_err-read_show-in-Some-5-clause-read
returns-in_err-read_show-in-Some-5-clause-read g c =
    let named : subcommand_name_of c.args.matches.now ≡ Some (codes "show") = grind (arith, c.in-Some-5.ensures.name, c.if-eq-5.ensures, (bytes_eq-Decides c.in-Some-5.name.now (codes "show")).0) in
    let p = err_from_is_err_and c.from_residual-in_err-read_show-in-Some-5.result c.from_residual-in_err-read_show-in-Some-5.ensures.1 in
    rw (p.1, p.2) (inr (inr (inr (inr (inr (inr (inl (named, (found_of c.in-Some.found.now, sym c.in-Some.ensures.rows, c.in_err-read_show-in-Some-5.ensures.refused)))))))))

pub returns-in_ok-read_part-in-Some-6-clause-read :
    goal.returns-in_ok-read_part-in-Some-6-clause-read
returns-in_ok-read_part-in-Some-6-clause-read g c =
    let named : subcommand_name_of c.args.matches.now ≡ Some (codes "undo") = grind (arith, c.in-Some-6.ensures.name, c.if-eq-6.ensures, (bytes_eq-Decides c.in-Some-6.name.now (codes "undo")).0) in
    inl (named, (found_of c.in-Some.found.now, sym c.in-Some.ensures.rows, c.in_ok-read_part-in-Some-6.ensures.asked))

pub returns-in_err-read_part-in-Some-6-clause-read :
    goal.returns-in_err-read_part-in-Some-6-clause-read
returns-in_err-read_part-in-Some-6-clause-read g c =
    let named : subcommand_name_of c.args.matches.now ≡ Some (codes "undo") = grind (arith, c.in-Some-6.ensures.name, c.if-eq-6.ensures, (bytes_eq-Decides c.in-Some-6.name.now (codes "undo")).0) in
    let p = err_from_is_err_and c.from_residual-in_err-read_part-in-Some-6.result c.from_residual-in_err-read_part-in-Some-6.ensures.1 in
    rw (p.1, p.2) (inr (inr (inr (inr (inl (named, (found_of c.in-Some.found.now, sym c.in-Some.ensures.rows, c.in_err-read_part-in-Some-6.ensures.refused)))))))

pub returns-in_ok-read_part-in-Some-7-clause-read :
    goal.returns-in_ok-read_part-in-Some-7-clause-read
returns-in_ok-read_part-in-Some-7-clause-read g c =
    let named : subcommand_name_of c.args.matches.now ≡ Some (codes "redo") = grind (arith, c.in-Some-7.ensures.name, c.if-eq-7.ensures, (bytes_eq-Decides c.in-Some-7.name.now (codes "redo")).0) in
    inr (named, (found_of c.in-Some.found.now, sym c.in-Some.ensures.rows, c.in_ok-read_part-in-Some-7.ensures.asked))

pub returns-in_err-read_part-in-Some-7-clause-read :
    goal.returns-in_err-read_part-in-Some-7-clause-read
returns-in_err-read_part-in-Some-7-clause-read g c =
    let named : subcommand_name_of c.args.matches.now ≡ Some (codes "redo") = grind (arith, c.in-Some-7.ensures.name, c.if-eq-7.ensures, (bytes_eq-Decides c.in-Some-7.name.now (codes "redo")).0) in
    let p = err_from_is_err_and c.from_residual-in_err-read_part-in-Some-7.result c.from_residual-in_err-read_part-in-Some-7.ensures.1 in
    rw (p.1, p.2) (inr (inr (inr (inr (inr (inl (named, (found_of c.in-Some.found.now, sym c.in-Some.ensures.rows, c.in_err-read_part-in-Some-7.ensures.refused))))))))

pub returns-in_ok-read_report-in-Some-8-clause-read :
    goal.returns-in_ok-read_report-in-Some-8-clause-read
returns-in_ok-read_report-in-Some-8-clause-read g c =
    let named : subcommand_name_of c.args.matches.now ≡ Some (codes "report") = grind (arith, c.in-Some-8.ensures.name, c.if-eq-8.ensures, (bytes_eq-Decides c.in-Some-8.name.now (codes "report")).0) in
    (named, (found_of c.in-Some.found.now, sym c.in-Some.ensures.rows, c.in_ok-read_report-in-Some-8.ensures.asked))

pub returns-in_err-read_report-in-Some-8-clause-read :
    goal.returns-in_err-read_report-in-Some-8-clause-read
returns-in_err-read_report-in-Some-8-clause-read g c =
    let named : subcommand_name_of c.args.matches.now ≡ Some (codes "report") = grind (arith, c.in-Some-8.ensures.name, c.if-eq-8.ensures, (bytes_eq-Decides c.in-Some-8.name.now (codes "report")).0) in
    let p = err_from_is_err_and c.from_residual-in_err-read_report-in-Some-8.result c.from_residual-in_err-read_report-in-Some-8.ensures.1 in
    rw (p.1, p.2) (inr (inr (inr (inr (inr (inr (inr (named, (found_of c.in-Some.found.now, sym c.in-Some.ensures.rows, c.in_err-read_report-in-Some-8.ensures.refused)))))))))
