-- One of the tables is of any schema, or the text has the schema of one.
use Rattle.std.proofs.Common.{sym, ◌∙◌}
use Rattle.std.specs.Prelude.{map}
use Rattle.std.specs.Option.{option_copied}
use Rattle.blog_choice.specs.Naming.{has_name}
use Rattle.blog_choice.specs.code.Views.{name_value}
use Rattle.blog_choice.proofs.Anys.{or-false, or-true}
use Rattle.blog_choice.proofs.AnyNamed.{any-schema}
use Rattle.blog_choice.proofs.chosen_names.ChosenNames.has_any_schema.Goals as goal

pub returns-then-self : goal.returns-then-self
returns-then-self g c =
    let names = c.args.self.now in
    c.if-self.true
    ∙ sym (any-schema (has_name c.args.twins c.args.text.now) (option_copied names.choice.database) (map name_value names.choice.tables.now) ∙ or-true _ _ (sym names.anywhere ∙ c.if-self.true))

pub returns-else-self : goal.returns-else-self
returns-else-self g c =
    let names = c.args.self.now in
    c.is_in.ensures ∙ names.within (has_name c.args.twins c.args.text.now)
    ∙ sym (any-schema (has_name c.args.twins c.args.text.now) (option_copied names.choice.database) (map name_value names.choice.tables.now) ∙ or-false _ _ (sym names.anywhere ∙ c.if-self.false))
