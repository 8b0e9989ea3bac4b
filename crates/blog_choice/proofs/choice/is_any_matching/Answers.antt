-- One name matches, as a value.
use Rattle.std.proofs.Common.{sym, ◌∙◌, rules}
use Rattle.std.specs.Option.{option_copied}
use Rattle.std.proofs.lemmas.Iterator.{YieldsList-from_slice}
use Rattle.std.proofs.lemmas.Iterator.Search.{any_from_yields_List}
use borrow.Author.Tests.{tests}
use Rattle.blog_choice.specs.Choice.{matches}
use Rattle.blog_choice.specs.code.Views.{name_value}
use Rattle.blog_choice.proofs.Places.{list_any-map}
use Rattle.blog_choice.proofs.choice.is_any_matching.Goals as goal

pub returns : goal.returns
returns c =
    let test = matches (option_copied c.args.database) c.args.schema.now c.args.table.now in
    any_from_yields_List (λ name. test (name_value name)) _ _ _ c.any.ensures.ran (YieldsList-from_slice c.args.names.now cc) (λ x b q k. search (rules, tests))
    ∙ sym (list_any-map test name_value c.args.names.now)
