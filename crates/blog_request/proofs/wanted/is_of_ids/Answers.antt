-- One of those that are asked for has it.
use Rattle.std.proofs.Common.{ap, map, sym, ◌∙◌, option_map, rules}
use Rattle.std.proofs.lemmas.Iterator.{YieldsList-from_slice}
use Rattle.std.proofs.lemmas.Iterator.Search.{any_from_yields_List}
use borrow.Author.Tests.{tests}
use Rattle.blog_units.specs.code.UnitsView.{id_told}
use Rattle.blog_choice.proofs.Places.{list_any-map}
use Rattle.blog_request.specs.Ids.{has_id, is_of_ids}
use Rattle.blog_request.specs.code.IdsView.{ids_value}
use Rattle.blog_request.proofs.Among.{among}
use Rattle.blog_request.proofs.wanted.is_of_ids.Goals as goal

pub returns-in-Some : goal.returns-in-Some
returns-in-Some c =
    let id = id_told c.in-Some.id in
    let found = any_from_yields_List (λ ids. has_id (ids_value ids) id) _ _ c.any.result c.any.ensures.ran (YieldsList-from_slice c.args.asked.now cc) (λ x b q k. search (rules, tests)) in
    among c.args.asked.now id c.is_empty.result c.any.result c.is_empty.ensures c.if-is_empty.false (found ∙ sym (list_any-map (λ ids. has_id ids id) ids_value c.args.asked.now))
    ∙ ap (λ known. is_of_ids (map ids_value c.args.asked.now) (option_map id_told known)) (sym c.in-Some.is)
