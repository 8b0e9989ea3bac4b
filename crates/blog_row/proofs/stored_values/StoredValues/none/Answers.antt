-- Behind the last column no values are left.
use Rattle.std.proofs.Common.{◌≡◌, ◌≤◌, List, ℕ, [], length, drop, sym, ap, ◌∙◌, arith}
use Rattle.std.specs.List.{list_all}
use Rattle.std.proofs.lemmas.List.{drop_all}
use Rattle.blog_row.specs.Column.{columns_of, is_column}
use Rattle.blog_row.specs.code.StoredLayoutView.{stored_columns}
use Rattle.blog_row.proofs.Layouts.{length_of_columns}
use Rattle.blog_row.proofs.StoredWalking.{none_next, none_imaged}
use Rattle.blog_row.proofs.stored_values.StoredValues.none.Goals as goal

pub invariant_of-result : goal.invariant_of-result
invariant_of-result c =
    let layout = c.args.layout.now.layout in
    let all : length (stored_columns c.args.layout.now) ≤ c.columns.result = omega (arith, c.columns.ensures) in
    let none : columns_of (drop c.columns.result layout.kinds.now) [] ≡ [] =
    ap (λ (t : List ℕ). columns_of t []) (drop_all c.columns.result layout.kinds.now (omega (arith, c.columns.ensures, length_of_columns layout.kinds.now layout.metadata.now))) in
    record {
      ahead = λ _. (none ∙ sym (drop_all c.columns.result (stored_columns c.args.layout.now) all), ap (list_all is_column) none);
      long = λ below. absurd (omega (arith, below, all));
      imaged = none_imaged (stored_columns c.args.layout.now) c.columns.result [] [] all;
    }

pub returns : goal.returns
returns c = none_next (stored_columns c.args.layout.now) c.columns.result [] [] (omega (arith, c.columns.ensures))
