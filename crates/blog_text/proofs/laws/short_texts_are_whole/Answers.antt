use Rattle.std.proofs.Common.{◌≡◌, ℕ, ◌-◌, ◌≤◌, List, [], ◌∷◌, ◌++◌, length, refl, ap, ◌∙◌, arith}
use Rattle.std.specs.List.{flat_map}
use Rattle.std.proofs.lemmas.Bool.{and_from, cond-true, le-leb, lt-ltb}
use Rattle.blog_text.specs.declared.marks.Mark.{Mark}
use Rattle.blog_text.specs.Escapes.{beginning, columns_of, marks, shown}
use Rattle.blog_text.specs.Laws.{all_columns}
use Rattle.blog_text.proofs.laws.short_texts_are_whole.Goals as goal

whole : (columns characters : ℕ) (ms : List Mark) → all_columns ms ≤ columns → length ms ≤ characters → beginning columns characters ms ≡ flat_map shown ms
whole columns characters [] fits few = refl
whole columns characters (m ∷ ms) fits few =
    cond-true _ _ _ (and_from _ _ (le-leb (columns_of m) columns (omega arith)) (lt-ltb 0 characters (omega arith)))
    ∙ ap (λ (text : List ℕ). shown m ++ text) (whole (columns - columns_of m) (characters - 1) ms (omega arith) (omega arith))

pub returns : goal.returns
returns c columns characters text fits few = whole columns characters (marks text) fits few
