-- The first colon, or none.
use Rattle.std.proofs.Common.{rules}
use Rattle.std.specs.Prelude.{◌==◌}
use Rattle.std.proofs.lemmas.Iterator.{YieldsList-from_slice}
use Rattle.std.proofs.lemmas.Iterator.Search.{position_from_yields_List}
use borrow.Author.Tests.{tests}
use Rattle.blog_sql.proofs.Names.{read-some, read-none}
use Rattle.blog_sql.proofs.options.Renamed.read.Goals as goal

pub returns-in-Some-clause-names : goal.returns-in-Some-clause-names
returns-in-Some-clause-names c =
    read-some c.args.text.now c.in-Some.colon _ c.between_names.ensures.names
    (position_from_yields_List (λ byte. byte == 58) _ _ _ c.in-Some.ensures.ran (YieldsList-from_slice c.args.text.now cc) (λ x b q k. search (rules, tests)))

pub returns-in-None-clause-names : goal.returns-in-None-clause-names
returns-in-None-clause-names c =
    read-none c.args.text.now
    (position_from_yields_List (λ byte. byte == 58) _ _ _ c.in-None.ensures.ran (YieldsList-from_slice c.args.text.now cc) (λ x b q k. search (rules, tests)))
