-- The text has the name of one of the tables, or is about schemas and has the schema of one.
use Rattle.std.proofs.Common.{◌≡◌, sym, ◌∙◌, false}
use Rattle.std.specs.Prelude.{map}
use Rattle.std.specs.List.{list_any}
use Rattle.std.specs.Option.{option_copied}
use Rattle.blog_choice.specs.Naming.{has_name}
use Rattle.blog_choice.specs.code.ChosenNaming.{tables_of}
use Rattle.blog_choice.specs.code.Views.{name_value}
use Rattle.blog_choice.proofs.Anys.{and-false, and-true, or-false, or-true}
use Rattle.blog_choice.proofs.AnyNamed.{any-table}
use Rattle.blog_choice.proofs.chosen_names.ChosenNames.is_any_named.Goals as goal

pub returns-then-is_in : goal.returns-then-is_in
returns-then-is_in g c =
    let names = c.args.self.now in
    let tables = map name_value names.choice.tables.now in
    c.if-is_in.true
    ∙ sym (any-table c.args.twins (option_copied names.choice.database) c.args.text.now tables
    ∙ or-true _ _ (sym (names.named (has_name c.args.twins c.args.text.now)) ∙ sym c.is_in.ensures ∙ c.if-is_in.true))

pub returns-then-is_about_schemas : goal.returns-then-is_about_schemas
returns-then-is_about_schemas g c =
    let names = c.args.self.now in
    let tables = map name_value names.choice.tables.now in
    let none : list_any (has_name c.args.twins c.args.text.now) (tables_of tables) ≡ false =
    sym (names.named (has_name c.args.twins c.args.text.now)) ∙ sym c.is_in.ensures ∙ c.if-is_in.false in
    c.has_any_schema.ensures
    ∙ sym (any-table c.args.twins (option_copied names.choice.database) c.args.text.now tables ∙ or-false _ _ none
    ∙ and-true _ _ (sym c.is_about_schemas.ensures ∙ c.if-is_about_schemas.true))

pub returns-else-is_about_schemas : goal.returns-else-is_about_schemas
returns-else-is_about_schemas g c =
    let names = c.args.self.now in
    let tables = map name_value names.choice.tables.now in
    let none : list_any (has_name c.args.twins c.args.text.now) (tables_of tables) ≡ false =
    sym (names.named (has_name c.args.twins c.args.text.now)) ∙ sym c.is_in.ensures ∙ c.if-is_in.false in
    c.if-is_about_schemas.false
    ∙ sym (any-table c.args.twins (option_copied names.choice.database) c.args.text.now tables ∙ or-false _ _ none
    ∙ and-false _ _ (sym c.is_about_schemas.ensures ∙ c.if-is_about_schemas.false))
