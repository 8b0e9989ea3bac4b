use Rattle.std.proofs.Common.{List, [], ◌++◌, Option, sym, ap, subst, ◌∙◌, append-nil, option_map}
use Rattle.std.specs.Prelude.{OnOk}
use Rattle.std.specs.List.{cons_option}
use Rattle.blog_row.specs.TableMap.{Table}
use Rattle.blog_choice.specs.code.Views.{choice_value}
use Rattle.blog_reasons.specs.code.NamedView.{table_value}
use Rattle.blog_reasons.specs.code.TablesView.{AreSeenTables}
use Rattle.blog_reasons.proofs.tables.SeenTables.look_at_event.Goals as goal

pub returns-in-Some-clause-seen : goal.returns-in-Some-clause-seen
returns-in-Some-clause-seen g c = λ ts are known.
    let some = ap (option_map table_value) (sym c.in-Some.is) ∙ c.named_table.ensures in
    subst (λ (o : Option Table). OnOk c.look_at_table.result (AreSeenTables (choice_value c.args.choice.now) (ts ++ cons_option o []) c.look_at_table.new.self)) some
    (c.look_at_table.ensures.seen ts are known)

pub returns-in-None-clause-seen : goal.returns-in-None-clause-seen
returns-in-None-clause-seen g c = λ ts are known.
    let none = ap (option_map table_value) (sym c.in-None.is) ∙ c.named_table.ensures in
    subst (λ (o : Option Table). AreSeenTables (choice_value c.args.choice.now) (ts ++ cons_option o []) c.args.self.now) none
    (subst (λ (all : List Table). AreSeenTables (choice_value c.args.choice.now) all c.args.self.now) (sym (append-nil ts)) are)
