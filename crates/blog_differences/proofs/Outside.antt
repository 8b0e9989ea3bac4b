-- Changes without those selected ones whose mark is true.
use Rattle.std.proofs.Common.{◌≡◌, Bool, true, false, List, [], ◌∷◌, ◌++◌, drop, length, refl, sym, ap, ◌∙◌}
use Rattle.std.specs.Prelude.{if◌then◌else◌}
use Rattle.std.proofs.lemmas.Bool.{cond-false, cond-true, false≢true}
use Rattle.blog_merge.specs.Laws.{outside_of}
use Rattle.blog_pairs.specs.Steps.{marked_by, unmarked}
use Rattle.blog_trans.specs.Changes.{Change}
use Rattle.blog_undo.specs.Mixed.{Marked}
use Rattle.blog_undo.specs.Part.{IsSelectedWithin, SelectsWithin}
use Rattle.blog_untouched.specs.Recorded.{marks_in}
use Rattle.blog_differences.specs.Outside.{outside_by}

-- without marks all stay
outside_none : (ms : List Marked) → outside_by [] ms ≡ ms
outside_none [] = refl
outside_none (m ∷ ms) = refl

-- ---- parts of a list

-- selected changes take a mark each
pub outside_selected : (marks : List Bool) (cs : List Change) (ms : List Marked)
    → outside_by marks (marked_by true cs ++ ms) ≡ marked_by true (unmarked marks cs) ++ outside_by (drop (length cs) marks) ms
outside_selected [] [] ms = refl
outside_selected [] (c ∷ cs) ms = ap (λ (ns : List Marked). marked_by true (c ∷ cs) ++ ns) (sym (outside_none ms))
outside_selected (mark ∷ marks) [] ms = refl
outside_selected (true ∷ marks) (c ∷ cs) ms = outside_selected marks cs ms
outside_selected (false ∷ marks) (c ∷ cs) ms = ap (λ (ns : List Marked). record { change = c; selected = true } ∷ ns) (outside_selected marks cs ms)

-- changes of others take none
pub outside_others : (marks : List Bool) (cs : List Change) (ms : List Marked) → outside_by marks (marked_by false cs ++ ms) ≡ marked_by false cs ++ outside_by marks ms
outside_others marks [] ms = refl
outside_others [] (c ∷ cs) ms = ap (λ (ns : List Marked). marked_by false (c ∷ cs) ++ ns) (sym (outside_none ms))
outside_others (mark ∷ marks) (c ∷ cs) ms = ap (λ (ns : List Marked). record { change = c; selected = false } ∷ ns) (outside_others (mark ∷ marks) cs ms)

-- ---- with the marks of a part

outside_one : (marks : List Bool) (m : Marked) (ms : List Marked) → m.selected ≡ false → outside_by marks (m ∷ ms) ≡ m ∷ outside_by marks ms
outside_one [] m ms other = ap (λ (ns : List Marked). m ∷ ns) (sym (outside_none ms))
outside_one (mark ∷ marks) m ms other = cond-false m.selected (if mark then outside_by marks ms else m ∷ outside_by marks ms) (m ∷ outside_by (mark ∷ marks) ms) other

not_selected : (m n : Marked) → IsSelectedWithin n m → m.selected ≡ false → n.selected ≡ false
not_selected m n within other = by_case n.selected refl
  where
    by_case : (b : Bool) → n.selected ≡ b → n.selected ≡ false
    by_case false is = is
    by_case true is = absurd (false≢true (sym other ∙ within.within is))

pub outside_part : (ms part : List Marked) → SelectsWithin part ms → outside_by (marks_in ms part) ms ≡ outside_of part ms
outside_part [] [] within = refl
outside_part [] (n ∷ part) within = elim within [ ]
outside_part (m ∷ ms) [] within = elim within [ ]
outside_part (m ∷ ms) (n ∷ part) within = by_case m.selected refl (outside_part ms part within.1)
  where
    rest : List Bool
    rest = marks_in ms part

    by_case : (b : Bool) → m.selected ≡ b → outside_by rest ms ≡ outside_of part ms → outside_by (marks_in (m ∷ ms) (n ∷ part)) (m ∷ ms) ≡ outside_of (n ∷ part) (m ∷ ms)
    by_case true is later =
        ap (λ (marks : List Bool). outside_by marks (m ∷ ms)) (cond-true m.selected (n.selected ∷ rest) rest is)
        ∙ cond-true m.selected (if n.selected then outside_by rest ms else m ∷ outside_by rest ms) (m ∷ outside_by (n.selected ∷ rest) ms) is
        ∙ ap (λ (ns : List Marked). if n.selected then ns else m ∷ ns) later
    by_case false is later =
        ap (λ (marks : List Bool). outside_by marks (m ∷ ms)) (cond-false m.selected (n.selected ∷ rest) rest is)
        ∙ outside_one rest m ms is
        ∙ ap (λ (ns : List Marked). m ∷ ns) later
        ∙ sym (cond-false n.selected (outside_of part ms) (m ∷ outside_of part ms) (not_selected m n within.0 is))
