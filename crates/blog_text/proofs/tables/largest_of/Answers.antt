use Rattle.std.proofs.Common.{◌≡◌, ℕ, ◌+◌, ◌-◌, List, take, drop, ap, ◌∙◌, arith}
use Rattle.std.specs.Prelude.{map}
use Rattle.blog_trans.specs.Changes.{TableCount}
use Rattle.blog_trans.specs.code.IndexView.{table_counted}
use Rattle.blog_text.specs.Tables.{largest_first}
use Rattle.blog_text.specs.code.Counted.{counts_in}
use Rattle.blog_text.proofs.Largest.{how-many, one-kept}
use Rattle.blog_text.proofs.tables.largest_of.Goals as goal

pub tables-preserved : goal.tables-preserved
tables-preserved g c =
    let counts : List TableCount = counts_in c.args.index.now in
    let k : ℕ = c.tables-tables.result - 1 - c.tables.n in
    let before : c.tables-tables.result - c.tables.n ≡ k + 1 = omega (arith, c.tables-test.true) in
    let after : k ≡ c.tables-tables.result - (c.tables.n + 1) = omega arith in
    one-kept (map table_counted c.tables.largest.items) (map table_counted c.put_in_place.new.largest.items) counts (table_counted c.table.result) k
    (c.tables.invariant ∙ ap (λ (m : ℕ). take 10 (largest_first (drop m counts))) before) c.table.ensures c.in_ok-put_in_place.ensures
    ∙ ap (λ (m : ℕ). take 10 (largest_first (drop m counts))) after

pub returns-clause-len : goal.returns-clause-len
returns-clause-len g c =
    let counts : List TableCount = counts_in c.args.index.now in
    let none : c.tables-tables.result - c.tables.n ≡ 0 = omega (arith, c.tables-test.false) in
    how-many table_counted c.tables.largest.items counts (c.tables.invariant ∙ ap (λ (m : ℕ). take 10 (largest_first (drop m counts))) none)
