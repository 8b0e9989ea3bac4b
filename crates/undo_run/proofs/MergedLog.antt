-- The undo of the log of a merge undoes the part, and then updates the other rows.
use Rattle.std.proofs.Common.{◌≡◌, ◌≤◌, ℕ, Bool, true, false, List, [], ◌∷◌, ◌++◌, length, ◌⊎◌, inl, inr, Option, None, map, reverse, sym, ap, ◌∙◌, append-nil}
use Rattle.blog_event.specs.File.{AreBytes}
use Rattle.blog_flash.proofs.Reversing.{turned-append}
use Rattle.blog_flash.specs.States.{inverse, inverse_all}
use Rattle.blog_later.specs.Prints.{print_of}
use Rattle.blog_left_out.specs.LeftOut.{kept}
use Rattle.blog_merge.proofs.Differences.{no-difference}
use Rattle.blog_merge.specs.Laws.{outside_of}
use Rattle.blog_merge.specs.Merge.{updates_of}
use Rattle.blog_merge.specs.Pairs.{Pair}
use Rattle.blog_merged.proofs.Nets.{inverse_nets}
use Rattle.blog_merged.specs.Nets.{nets_of}
use Rattle.blog_sum.specs.declared.fault.SumFault.{SumFault}
use Rattle.blog_trans.specs.Changes.{Change, changes}
use Rattle.blog_trans.specs.Selection.{Selection, all}
use Rattle.blog_undo.specs.Mixed.{selected_changes}
use Rattle.blog_units.specs.Units.{Facts}
use Rattle.list_run.specs.Listed.{NamedLog}
use Rattle.undo_run.specs.Leaving.{are_all, marks_undone, mixed, part_undone}
use Rattle.undo_run.specs.Merging.{IsMergedLog, pairs_left, undoes_some}
use Rattle.undo_run.specs.Several.{Names}
use Rattle.undo_run.specs.Taken.{Taken}
use Rattle.undo_run.specs.Units.{AreSound, chosen_taken, chosen_units, kept_log}
use Rattle.undo_run.proofs.Merging.{none-selected-left}
use Rattle.undo_run.proofs.PartLog.{kept-marks, kept-whole, marks-length, own-changes}

-- the undo of updates of pairs, and of other changes after them
undo_of_nets : (ps : List Pair) (cs : List Change) → inverse_all (nets_of ps ++ cs) ≡ inverse_all cs ++ updates_of ps
undo_of_nets ps cs = turned-append inverse (nets_of ps) cs ∙ ap (λ us. reverse (map inverse cs) ++ reverse us) (inverse_nets ps)

pub merged-undone : (names : Names) (p : Facts → Bool) (sel : Selection) (handed : List ℕ) (end : ℕ) (fault : Option SumFault) (logs : List NamedLog) (u : Facts) (us : List Facts) (log : List ℕ)
    → chosen_units p sel handed ≡ u ∷ us → AreBytes handed → AreSound p sel handed None → length (kept_log sel handed (chosen_units p sel handed)) ≤ 4294967295
    → IsMergedLog (chosen_taken names p sel handed end fault) logs log
    → inverse_all (changes log all) ≡ inverse_all (selected_changes (part_undone (chosen_taken names p sel handed end fault) logs)) ++ updates_of (pairs_left (chosen_taken names p sel handed end fault) logs)
merged-undone names p sel handed end fault logs u us log some_chosen are sound short is = by_case is
  where
    t : Taken
    t = chosen_taken names p sel handed end fault

    marks : List Bool
    marks = marks_undone t logs

    own : changes t.log all ≡ selected_changes (mixed t logs)
    own = own-changes names p sel handed end fault logs u us some_chosen are sound short

    part : kept marks (changes t.log all) ≡ selected_changes (part_undone t logs)
    part = ap (kept marks) own ∙ kept-marks print_of (mixed t logs)

    by_case : IsMergedLog t logs log → inverse_all (changes log all) ≡ inverse_all (selected_changes (part_undone t logs)) ++ updates_of (pairs_left t logs)
    by_case (inl (every, same)) =
        let whole : kept marks (changes t.log all) ≡ changes t.log all = kept-whole marks (changes t.log all) every (marks-length print_of (mixed t logs) ∙ sym (ap length own)) in
        let pairs : pairs_left t logs ≡ [] = (no-difference (outside_of (part_undone t logs) (mixed t logs)) (none-selected-left t logs every)).pairs in
        ap (λ (b : List ℕ). inverse_all (changes b all)) same ∙ ap inverse_all (sym whole ∙ part)
        ∙ sym (append-nil (inverse_all (selected_changes (part_undone t logs))))
        ∙ ap (λ (ps : List Pair). inverse_all (selected_changes (part_undone t logs)) ++ updates_of ps) (sym pairs)
    by_case (inr (out, some, text)) =
        ap inverse_all text ∙ undo_of_nets (pairs_left t logs) (kept marks (changes t.log all))
        ∙ ap (λ (cs : List Change). inverse_all cs ++ updates_of (pairs_left t logs)) part
