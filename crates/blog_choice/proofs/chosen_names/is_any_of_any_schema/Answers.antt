-- One name is of any schema, as a value.
use Rattle.std.proofs.Common.{sym, ◌∙◌, rules}
use Rattle.std.specs.Option.{option_copied}
use Rattle.std.proofs.lemmas.Iterator.{YieldsList-from_slice}
use Rattle.std.proofs.lemmas.Iterator.Search.{any_from_yields_List}
use borrow.Author.Tests.{tests}
use Rattle.blog_choice.specs.code.ChosenNaming.{is_of_any_schema}
use Rattle.blog_choice.specs.code.Views.{name_value}
use Rattle.blog_choice.proofs.Places.{list_any-map}
use Rattle.blog_choice.proofs.chosen_names.is_any_of_any_schema.Goals as goal

pub returns : goal.returns
returns c =
    let test = is_of_any_schema (option_copied c.args.database) in
    any_from_yields_List (λ name. test (name_value name)) _ _ _ c.any.ensures.ran (YieldsList-from_slice c.args.tables.now cc) (λ x b q k. search (rules, tests))
    ∙ sym (list_any-map test name_value c.args.tables.now)
