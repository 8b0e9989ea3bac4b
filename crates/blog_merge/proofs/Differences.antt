-- Which pairs there are.
use Rattle.std.proofs.Common.{◌≡◌, Bool, true, false, not, List, [], ◌∷◌, ◌++◌, Some, None, refl, ap, ◌∙◌}
use Rattle.std.specs.Prelude.{option_map}
use Rattle.std.specs.List.{cons_option}
use Rattle.std.proofs.lemmas.Bool.{and_from, and_parts, cond-false, cond-true, not-true}
use Rattle.blog_row.specs.Image.{Row}
use Rattle.blog_row.specs.TableMap.{Table}
use Rattle.blog_trans.specs.Changes.{Change, Inserted, Deleted, Updated}
use Rattle.blog_undo.specs.Mixed.{Marked, is_same_row}
use Rattle.blog_undo.proofs.Rows.{is_row-Decides}
use Rattle.blog_merge.specs.Pairs.{Pair, is_of, put, real_row, unless_equal, without, would_be, would_row}
use Rattle.blog_merge.specs.Merge.{change_would_be, later_would_be, merged, pairs_after, pairs_by, pairs_by_later, pairs_by_selected, pairs_of, rebased_after}
use Rattle.blog_merge.specs.Laws.{HasNoDifference, all_differ, none_selected}
use Rattle.blog_merge.proofs.Columns.{merged-own}

-- ---- the rows of each pair differ

differ-append : (ps qs : List Pair) → all_differ ps ≡ true → all_differ qs ≡ true → all_differ (ps ++ qs) ≡ true
differ-append [] qs d e = e
differ-append (p ∷ ps) qs d e = let (here, later) = and_parts _ _ d in and_from _ _ here (differ-append ps qs later e)

-- none is there whose rows are equal
unless-differ : (p : Pair) → all_differ (unless_equal p) ≡ true
unless-differ p = by_case (is_same_row (would_row p) (Some (real_row p))) refl
  where
    by_case : (b : Bool) → is_same_row (would_row p) (Some (real_row p)) ≡ b → all_differ (unless_equal p) ≡ true
    by_case true is = ap all_differ (cond-true (is_same_row (would_row p) (Some (real_row p))) [] (p ∷ []) is)
    by_case false is = ap all_differ (cond-false (is_same_row (would_row p) (Some (real_row p))) [] (p ∷ []) is) ∙ and_from _ _ (ap not is) refl

put-differ : (t : Table) (r : Row) (new : Pair) (ps : List Pair) → all_differ ps ≡ true → all_differ (put t r new ps) ≡ true
put-differ t r new [] d = unless-differ new
put-differ t r new (p ∷ ps) d = by_case (is_of t r p) refl (and_parts _ _ d) (put-differ t r new ps)
  where
    by_case : (b : Bool) → is_of t r p ≡ b → (not (is_same_row (would_row p) (Some (real_row p))) ≡ true) × (all_differ ps ≡ true)
        → (all_differ ps ≡ true → all_differ (put t r new ps) ≡ true) → all_differ (put t r new (p ∷ ps)) ≡ true
    by_case true is each later =
        ap all_differ (cond-true (is_of t r p) (unless_equal new ++ ps) (p ∷ put t r new ps) is) ∙ differ-append (unless_equal new) ps (unless-differ new) each.1
    by_case false is each later =
        ap all_differ (cond-false (is_of t r p) (unless_equal new ++ ps) (p ∷ put t r new ps) is) ∙ and_from _ _ each.0 (later each.1)

without-differ : (t : Table) (r : Row) (ps : List Pair) → all_differ ps ≡ true → all_differ (without t r ps) ≡ true
without-differ t r [] d = refl
without-differ t r (p ∷ ps) d = by_case (is_of t r p) refl (and_parts _ _ d) (without-differ t r ps)
  where
    by_case : (b : Bool) → is_of t r p ≡ b → (not (is_same_row (would_row p) (Some (real_row p))) ≡ true) × (all_differ ps ≡ true)
        → (all_differ ps ≡ true → all_differ (without t r ps) ≡ true) → all_differ (without t r (p ∷ ps)) ≡ true
    by_case true is each later = ap all_differ (cond-true (is_of t r p) ps (p ∷ without t r ps) is) ∙ each.1
    by_case false is each later = ap all_differ (cond-false (is_of t r p) ps (p ∷ without t r ps) is) ∙ and_from _ _ each.0 (later each.1)

selected-differ : (c : Change) (ps : List Pair) → all_differ ps ≡ true → all_differ (pairs_by_selected c ps) ≡ true
selected-differ (Inserted t r) ps d = differ-append ps _ d refl
selected-differ (Deleted t r) ps d = d
selected-differ (Updated t r s) ps d = put-differ t r (record { table = t; real = s; would = would_be t r ps }) ps d

later-differ : (c : Change) (ps : List Pair) → all_differ ps ≡ true → all_differ (pairs_by_later c ps) ≡ true
later-differ (Inserted t r) ps d = d
later-differ (Deleted t r) ps d = without-differ t r ps d
later-differ (Updated t r s) ps d = put-differ t r (record { table = t; real = s; would = option_map (merged r s) (would_be t r ps) }) ps d

one-differs : (m : Marked) (ps : List Pair) → all_differ ps ≡ true → all_differ (pairs_by m ps) ≡ true
one-differs m ps d = by_case m.selected refl
  where
    by_case : (b : Bool) → m.selected ≡ b → all_differ (pairs_by m ps) ≡ true
    by_case true is = ap all_differ (cond-true m.selected (pairs_by_selected m.change ps) (pairs_by_later m.change ps) is) ∙ selected-differ m.change ps d
    by_case false is = ap all_differ (cond-false m.selected (pairs_by_selected m.change ps) (pairs_by_later m.change ps) is) ∙ later-differ m.change ps d

after-differ : (ms : List Marked) (ps : List Pair) → all_differ ps ≡ true → all_differ (pairs_after ps ms) ≡ true
after-differ [] ps d = d
after-differ (m ∷ ms) ps d = after-differ ms (pairs_by m ps) (one-differs m ps d)

pub pairs-differ : (ms : List Marked) → all_differ (pairs_of ms) ≡ true
pairs-differ ms = after-differ ms [] refl

-- ---- without selected changes

no-pairs : (c : Change) → pairs_by_later c [] ≡ []
no-pairs (Inserted t r) = refl
no-pairs (Deleted t r) = refl
no-pairs (Updated t r s) = cond-true _ _ _ ((is_row-Decides t (merged r s r) t s).1 (refl, merged-own r s))

same-change : (c : Change) → later_would_be c [] ≡ Some c
same-change (Inserted t r) = refl
same-change (Deleted t r) = refl
same-change (Updated t r s) = ap (λ w. Some (Updated t r w)) (merged-own r s)

pub no-difference : (ms : List Marked) → none_selected ms ≡ true → HasNoDifference ms
no-difference [] none = record { pairs = refl; others = refl }
no-difference (m ∷ ms) none =
    let (here, later) = and_parts _ _ none in
    let is : m.selected ≡ false = not-true m.selected here in
    let h = no-difference ms later in
    let pairs : pairs_by m [] ≡ [] = cond-false m.selected _ _ is ∙ no-pairs m.change in
    let change : change_would_be m [] ≡ Some m.change = cond-false m.selected None (later_would_be m.change []) is ∙ same-change m.change in
    record {
      pairs = ap (λ ps. pairs_after ps ms) pairs ∙ h.pairs;
      others = ap (λ o. cons_option o (rebased_after (pairs_by m []) ms)) change ∙ ap (λ ps. m.change ∷ rebased_after ps ms) pairs ∙ ap (λ cs. m.change ∷ cs) h.others;
    }
