use Rattle.std.proofs.Common.{sym, ◌∙◌}
use Rattle.std.proofs.lemmas.Bool.{cond-false, cond-true}
use Rattle.blog_choice.specs.Choice.{chooses}
use Rattle.blog_choice.specs.code.Views.{choice_value}
use Rattle.show_run.proofs.source_report.add_table.Goals as goal

pub returns-then-not-has-clause-said : goal.returns-then-not-has-clause-said
returns-then-not-has-clause-said g c = record {
  is = sym (cond-false (chooses (choice_value c.args.choice.now) c.args.count.now.schema.now c.args.count.now.table.now) _ _ (sym c.has.ensures ∙ c.if-not-has.true));
  whole = λ w. w;
}

pub returns-then-not-has-clause-rows : goal.returns-then-not-has-clause-rows
returns-then-not-has-clause-rows g c = sym (cond-false (chooses (choice_value c.args.choice.now) c.args.count.now.schema.now c.args.count.now.table.now) _ _ (sym c.has.ensures ∙ c.if-not-has.true))

pub returns-clause-said : goal.returns-clause-said
returns-clause-said g c = record {
  is = c.in_ok-add_rows.ensures.said ∙ sym (cond-true (chooses (choice_value c.args.choice.now) c.args.count.now.schema.now c.args.count.now.table.now) _ _ (sym c.has.ensures ∙ c.if-not-has.false));
  whole = c.in_ok-add_rows.ensures.whole;
}

pub returns-clause-rows : goal.returns-clause-rows
returns-clause-rows g c = c.plus.ensures ∙ sym (cond-true (chooses (choice_value c.args.choice.now) c.args.count.now.schema.now c.args.count.now.table.now) _ _ (sym c.has.ensures ∙ c.if-not-has.false))
