-- Pairs that steps of changes make, of which some are selected.
use Rattle.std.proofs.Common.{◌≡◌, ℕ, Bool, true, false, not, List, [], ◌∷◌, ◌++◌, map, drop, length, Option, Some, None, refl, sym, ap, ◌∙◌, subst}
use Rattle.std.specs.Prelude.{nat_eq, option_map}
use Rattle.std.specs.List.{cons_option, flat_map, list_any}
use Rattle.std.proofs.lemmas.Bool.{cond-false, cond-true, or_left, or_right}
use Rattle.std.proofs.lemmas.List.Folds.{list_any-append}
use Rattle.blog_differences.specs.Outside.{outside_by}
use Rattle.blog_differences.proofs.Outside.{outside_others, outside_selected}
use Rattle.blog_later.specs.Among.{Step, Selected, Other, marked_in, others_of, selected_in}
use Rattle.blog_later.specs.Later.{changes_in, unit_changes}
use Rattle.blog_later.specs.Prints.{prints_left}
use Rattle.blog_later.proofs.Counting.{left-append}
use Rattle.blog_merge.specs.Merge.{pairs_after, pairs_by, pairs_by_selected}
use Rattle.blog_merge.specs.Pairs.{Pair}
use Rattle.blog_pairs.specs.Steps.{marked_by, pairs_with, unmarked}
use Rattle.blog_trans.specs.Changes.{Change, changes}
use Rattle.blog_trans.specs.Selection.{Selection}
use Rattle.blog_undo.specs.Mixed.{Marked, TableRow, leaves}
use Rattle.blog_units.specs.Units.{Facts, range_of_unit}
use Rattle.blog_untouched.specs.Steps.{unit_step}
use Rattle.blog_followed.specs.Following.{HasPrints, others_in, prints_touched}
use Rattle.blog_followed.specs.Laws.{AreOfOthers, FollowsPairs}
use Rattle.blog_followed.proofs.Found.{AreFound, found-followed, selected-found}
use Rattle.blog_followed.proofs.TouchedPairs.{makes-pairs}
use Rattle.blog_followed.proofs.Fingerprints.{has-touched, touched-on}

-- ---- fingerprints of rows that changes leave

has-rest : (f : TableRow → ℕ) (prints : List ℕ) (c : Change) (cs : List Change) → HasPrints prints (prints_left f (c ∷ cs)) → HasPrints prints (prints_left f cs)
has-rest f prints c cs has = by_case (option_map f (leaves c)) has
  where
    by_case : (o : Option ℕ) → HasPrints prints (cons_option o (prints_left f cs)) → HasPrints prints (prints_left f cs)
    by_case None all = all
    by_case (Some q) all = λ p e. all p (or_right (nat_eq p q) (list_any (nat_eq p) (prints_left f cs)) e)

has-first : (prints xs ys : List ℕ) → HasPrints prints (xs ++ ys) → HasPrints prints xs
has-first prints xs ys has = λ p e. has p (list_any-append (nat_eq p) xs ys ∙ or_left (list_any (nat_eq p) xs) (list_any (nat_eq p) ys) e)

has-second : (prints xs ys : List ℕ) → HasPrints prints (xs ++ ys) → HasPrints prints ys
has-second prints xs ys has = λ p e. has p (list_any-append (nat_eq p) xs ys ∙ or_right (list_any (nat_eq p) xs) (list_any (nat_eq p) ys) e)

-- ---- selected changes, without the marked ones

selected-all : (f : TableRow → ℕ) (prints : List ℕ) (marks : List Bool) (cs : List Change) (ps : List Pair) → HasPrints prints (prints_left f cs) → AreFound f prints ps
    → AreFound f prints (pairs_with true (unmarked marks cs) ps)
selected-all f prints [] [] ps has are = are
selected-all f prints (mark ∷ marks) [] ps has are = are
selected-all f prints [] (c ∷ cs) ps has are = selected-all f prints [] cs (pairs_by_selected c ps) (has-rest f prints c cs has) (selected-found f prints c cs ps has are)
selected-all f prints (true ∷ marks) (c ∷ cs) ps has are = selected-all f prints marks cs ps (has-rest f prints c cs has) are
selected-all f prints (false ∷ marks) (c ∷ cs) ps has are = selected-all f prints marks cs (pairs_by_selected c ps) (has-rest f prints c cs has) (selected-found f prints c cs ps has are)

-- ---- steps

after-both : (ps : List Pair) (ms ns : List Marked) → pairs_after ps (ms ++ ns) ≡ pairs_after (pairs_after ps ms) ns
after-both ps [] ns = refl
after-both ps (m ∷ ms) ns = after-both (pairs_by m ps) ms ns

steps-followed : (f : TableRow → ℕ) (prints : List ℕ) (marks : List Bool) (ss : List Step) (ps : List Pair) → HasPrints prints (prints_left f (flat_map (λ cs. cs) (selected_in ss))) → AreFound f prints ps
    → AreFound f (prints_touched f prints (others_in ss)) (pairs_after ps (outside_by marks (marked_in ss)))
steps-followed f prints [] [] ps has are = are
steps-followed f prints (mark ∷ marks) [] ps has are = are
steps-followed f prints marks (Selected cs ∷ ss) ps has are =
    let parts = left-append f cs (flat_map (λ cs. cs) (selected_in ss)) in
    let all : HasPrints prints (prints_left f cs ++ prints_left f (flat_map (λ cs. cs) (selected_in ss))) = λ p e. has p (ap (list_any (nat_eq p)) parts ∙ e) in
    let these = selected-all f prints marks cs ps (has-first prints (prints_left f cs) (prints_left f (flat_map (λ cs. cs) (selected_in ss))) all) are in
    let later = steps-followed f prints (drop (length cs) marks) ss (pairs_with true (unmarked marks cs) ps) (has-second prints (prints_left f cs) (prints_left f (flat_map (λ cs. cs) (selected_in ss))) all) these in
    subst (AreFound f (prints_touched f prints (others_in ss)))
    (sym (ap (pairs_after ps) (outside_selected marks cs (marked_in ss)) ∙ after-both ps (marked_by true (unmarked marks cs)) (outside_by (drop (length cs) marks) (marked_in ss)))) later
steps-followed f prints marks (Other cs ∷ ss) ps has are =
    let more = prints_touched f prints cs in
    let still : HasPrints more (prints_left f (flat_map (λ cs. cs) (selected_in ss))) = λ p e. has-touched f prints cs p (has p e) in
    let later = steps-followed f more marks ss (pairs_with false cs ps) still (makes-pairs f prints cs ps are).1 in
    subst (λ (qs : List ℕ). AreFound f qs (pairs_after ps (outside_by marks (marked_in (Other cs ∷ ss))))) (sym (touched-on f prints cs (others_in ss)))
    (subst (AreFound f (prints_touched f more (others_in ss)))
    (sym (ap (pairs_after ps) (outside_others marks cs (marked_in ss)) ∙ after-both ps (marked_by false cs) (outside_by marks (marked_in ss)))) later)

pub follows-pairs : (f : TableRow → ℕ) (prints : List ℕ) (marks : List Bool) (ss : List Step) → FollowsPairs f prints marks ss
follows-pairs f prints marks ss has = found-followed f _ _ (steps-followed f prints marks ss [] has tt)

-- ---- steps of units

pub are-of-others : (p : Facts → Bool) (sel : Selection) (bytes : List ℕ) (us : List Facts) → AreOfOthers p sel bytes us
are-of-others p sel bytes [] = refl
are-of-others p sel bytes (u ∷ us) = by_case (p u) refl (are-of-others p sel bytes us)
  where
    by_case : (b : Bool) → p u ≡ b → AreOfOthers p sel bytes us → AreOfOthers p sel bytes (u ∷ us)
    by_case true e later =
        ap (λ (s : Step). others_in (s ∷ map (unit_step p sel bytes) us)) (cond-true (p u) (Selected (changes bytes (range_of_unit sel u))) (Other (unit_changes bytes u)) e)
        ∙ later
        ∙ sym (ap (changes_in bytes) (cond-false (not (p u)) (u ∷ others_of p us) (others_of p us) (ap not e)))
    by_case false e later =
        ap (λ (s : Step). others_in (s ∷ map (unit_step p sel bytes) us)) (cond-false (p u) (Selected (changes bytes (range_of_unit sel u))) (Other (unit_changes bytes u)) e)
        ∙ ap (λ (cs : List Change). unit_changes bytes u ++ cs) later
        ∙ sym (ap (changes_in bytes) (cond-true (not (p u)) (u ∷ others_of p us) (others_of p us) (ap not e)))
