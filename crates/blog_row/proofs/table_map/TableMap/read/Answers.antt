use Rattle.std.proofs.Common.{◌≡◌, Some, option_map, sym, ap, ◌∙◌}
use Rattle.blog_row.specs.TableMap.{names_of, names_seen}
use Rattle.blog_row.proofs.NameLemmas.{names_found}
use Rattle.blog_row.proofs.table_map.TableMap.read.Goals as goal

pub invariant_of-result : goal.invariant_of-result
invariant_of-result c =
    let is : names_of c.args.body.now ≡ Some (names_seen c.in-Some.names) = sym c.names_at.ensures ∙ ap (option_map names_seen) c.in-Some.is in
    record { id_len = (names_found _ _ is).id_len }

pub returns-in-Some-clause-found : goal.returns-in-Some-clause-found
returns-in-Some-clause-found c =
    let is : names_of c.args.body.now ≡ Some (names_seen c.in-Some.names) = sym c.names_at.ensures ∙ ap (option_map names_seen) c.in-Some.is in
    names_found _ _ is
