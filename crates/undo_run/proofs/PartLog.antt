-- The log of the changes that are undone has these changes.
use Rattle.std.proofs.Common.{◌≡◌, ℕ, ◌+◌, ◌≤◌, Bool, true, false, ◌&&◌, List, [], ◌∷◌, ◌++◌, length, map, Option, None, refl, sym, ap, ap₂, subst, ◌∙◌, arith, append_assoc}
use Rattle.std.specs.Prelude.{filter, if◌then◌else◌}
use Rattle.std.specs.List.{AllByRecursion, flat_map}
use Rattle.std.proofs.lemmas.Bool.{cond-false, cond-true, false≢true}
use Rattle.blog_event.specs.File.{AreBytes}
use Rattle.blog_gathered.proofs.Forming.{changes-of-ranges, gathered-groups}
use Rattle.blog_gathered.specs.Gathered.{IsSoundRange, range_changes}
use Rattle.blog_later.specs.Among.{Step, Selected, Other, marked_in, selected_in}
use Rattle.blog_later.specs.Prints.{print_of}
use Rattle.blog_left_out.proofs.Forming.{kept-log-changes}
use Rattle.blog_left_out.specs.LeftOut.{kept, left_out_text}
use Rattle.blog_sum.specs.declared.fault.SumFault.{SumFault}
use Rattle.blog_trans.specs.Changes.{Change, changes, changes_of}
use Rattle.blog_trans.specs.Selection.{Selection, all}
use Rattle.blog_undo.specs.Mixed.{Marked, TableRow, selected_changes}
use Rattle.blog_units.specs.Units.{Facts}
use Rattle.blog_untouched.specs.ByPrints.{is_left_alone_by, part_by}
use Rattle.blog_untouched.specs.Recorded.{marks_in}
use Rattle.list_run.specs.Listed.{NamedLog}
use Rattle.undo_run.specs.After.{later_step}
use Rattle.undo_run.specs.Leaving.{are_all, log_undone, marks_undone, mixed, part_undone}
use Rattle.undo_run.specs.Several.{Names}
use Rattle.undo_run.specs.Taken.{Taken, whole_log}
use Rattle.undo_run.specs.Units.{AreAccepted, AreSound, chosen_range, chosen_taken, chosen_units, kept_log}
use Rattle.undo_run.specs.code.Steps.{chosen_changes}
use Rattle.undo_run.proofs.Counted.{selected-chosen, selected-later}

-- ---- the selected changes of steps

selected-own : (cs : List Change) (ms : List Marked) → selected_changes (map (λ c. record { change = c; selected = true }) cs ++ ms) ≡ cs ++ selected_changes ms
selected-own [] ms = refl
selected-own (c ∷ cs) ms = ap (λ (ds : List Change). c ∷ ds) (selected-own cs ms)

selected-none : (cs : List Change) (ms : List Marked) → selected_changes (map (λ c. record { change = c; selected = false }) cs ++ ms) ≡ selected_changes ms
selected-none [] ms = refl
selected-none (c ∷ cs) ms = selected-none cs ms

selected-flat : (ss : List Step) → selected_changes (marked_in ss) ≡ flat_map (λ (cs : List Change). cs) (selected_in ss)
selected-flat [] = refl
selected-flat (Selected cs ∷ ss) = selected-own cs (marked_in ss) ∙ ap (λ (ds : List Change). cs ++ ds) (selected-flat ss)
selected-flat (Other cs ∷ ss) = selected-none cs (marked_in ss) ∙ selected-flat ss

-- ---- those of the part

abbrev change_of : Marked → Change
change_of m = m.change

pub kept-marks : (f : TableRow → ℕ) (ms : List Marked) → kept (marks_in ms (part_by f ms)) (selected_changes ms) ≡ selected_changes (part_by f ms)
kept-marks f [] = refl
kept-marks f (m ∷ ms) = by_case m.selected (is_left_alone_by f m.change part) (kept-marks f ms)
  where
    part : List Marked
    part = part_by f ms

    by_case : (s b : Bool) → kept (marks_in ms part) (selected_changes ms) ≡ selected_changes part
        → kept (if s then (s && b) ∷ marks_in ms part else marks_in ms part) (map change_of (if s then m ∷ filter (λ n. n.selected) ms else filter (λ n. n.selected) ms))
        ≡ map change_of (if s && b then record m { selected = s && b } ∷ filter (λ n. n.selected) part else filter (λ n. n.selected) part)
    by_case true true later = ap (λ (cs : List Change). m.change ∷ cs) later
    by_case true false later = later
    by_case false b later = later

pub marks-length : (f : TableRow → ℕ) (ms : List Marked) → length (marks_in ms (part_by f ms)) ≡ length (selected_changes ms)
marks-length f [] = refl
marks-length f (m ∷ ms) = by_case m.selected (is_left_alone_by f m.change (part_by f ms)) (marks-length f ms)
  where
    by_case : (s b : Bool) → length (marks_in ms (part_by f ms)) ≡ length (selected_changes ms)
        → length (if s then (s && b) ∷ marks_in ms (part_by f ms) else marks_in ms (part_by f ms)) ≡ length (map change_of (if s then m ∷ filter (λ n. n.selected) ms else filter (λ n. n.selected) ms))
    by_case true b later = omega (arith, later)
    by_case false b later = later

pub kept-whole : (marks : List Bool) (cs : List Change) → are_all marks ≡ true → length marks ≡ length cs → kept marks cs ≡ cs
kept-whole [] [] every long = refl
kept-whole [] (c ∷ cs) every long = absurd (omega (arith, long))
kept-whole (true ∷ marks) [] every long = absurd (omega (arith, long))
kept-whole (true ∷ marks) (c ∷ cs) every long = ap (λ (ds : List Change). c ∷ ds) (kept-whole marks cs every (omega (arith, long)))
kept-whole (false ∷ marks) cs every long = absurd (false≢true every)

-- ---- those of gathered units

ranges-sound : (sel : Selection) (handed : List ℕ) (us : List Facts) → AreBytes handed → AreAccepted sel handed us → AllByRecursion IsSoundRange (map (chosen_range sel handed) us)
ranges-sound sel handed [] are accepted = tt
ranges-sound sel handed (u ∷ us) are (first, rest) = ((are, first), ranges-sound sel handed us are rest)

flat-ranges : (sel : Selection) (handed : List ℕ) (us : List Facts) → flat_map range_changes (map (chosen_range sel handed) us) ≡ flat_map (λ (cs : List Change). cs) (chosen_changes sel handed us)
flat-ranges sel handed [] = refl
flat-ranges sel handed (u ∷ us) = ap (λ (cs : List Change). range_changes (chosen_range sel handed u) ++ cs) (flat-ranges sel handed us)

gathered-units : (sel : Selection) (handed : List ℕ) (u : Facts) (us : List Facts) → AreBytes handed → AreAccepted sel handed (u ∷ us) → length (kept_log sel handed (u ∷ us)) ≤ 4294967295
    → changes (kept_log sel handed (u ∷ us)) all ≡ flat_map (λ (cs : List Change). cs) (chosen_changes sel handed (u ∷ us))
gathered-units sel handed u us are accepted short =
    let sound = ranges-sound sel handed (u ∷ us) are accepted in
    ap changes_of (gathered-groups (chosen_range sel handed u) (map (chosen_range sel handed) (u ∷ us)) sound.0 sound short)
    ∙ changes-of-ranges (map (chosen_range sel handed) (u ∷ us)) ∙ flat-ranges sel handed (u ∷ us)

gathered-some : (sel : Selection) (handed : List ℕ) (ws : List Facts) (u : Facts) (us : List Facts) → ws ≡ u ∷ us → AreBytes handed → AreAccepted sel handed ws → length (kept_log sel handed ws) ≤ 4294967295
    → changes (kept_log sel handed ws) all ≡ flat_map (λ (cs : List Change). cs) (chosen_changes sel handed ws)
gathered-some sel handed ws u us is are accepted short =
    subst (λ (vs : List Facts). changes (kept_log sel handed vs) all ≡ flat_map (λ (cs : List Change). cs) (chosen_changes sel handed vs)) (sym is)
    (gathered-units sel handed u us are (subst (AreAccepted sel handed) is accepted) (subst (λ (vs : List Facts). length (kept_log sel handed vs) ≤ 4294967295) is short))

-- ---- together

-- the log has all selected changes
pub own-changes : (names : Names) (p : Facts → Bool) (sel : Selection) (handed : List ℕ) (end : ℕ) (fault : Option SumFault) (logs : List NamedLog) (u : Facts) (us : List Facts)
    → chosen_units p sel handed ≡ u ∷ us → AreBytes handed → AreSound p sel handed None → length (kept_log sel handed (chosen_units p sel handed)) ≤ 4294967295
    → changes (chosen_taken names p sel handed end fault).log all ≡ selected_changes (mixed (chosen_taken names p sel handed end fault) logs)
own-changes names p sel handed end fault logs u us some_chosen are sound short =
    let t = chosen_taken names p sel handed end fault in
    gathered-some sel handed (chosen_units p sel handed) u us some_chosen are sound.accepted short
    ∙ ap (flat_map (λ (cs : List Change). cs)) (sym (selected-chosen p sel handed) ∙ sym (selected-later t.steps (map whole_log logs)))
    ∙ sym (selected-flat (t.steps ++ map later_step (map whole_log logs)))

pub undone-changes : (names : Names) (p : Facts → Bool) (sel : Selection) (handed : List ℕ) (end : ℕ) (fault : Option SumFault) (logs : List NamedLog) (u : Facts) (us : List Facts)
    → chosen_units p sel handed ≡ u ∷ us → AreBytes handed → AreBytes (kept_log sel handed (chosen_units p sel handed)) → AreSound p sel handed None → length (kept_log sel handed (chosen_units p sel handed)) ≤ 4294967295
    → length (log_undone (chosen_taken names p sel handed end fault) logs) ≤ 4294967295
    → changes (log_undone (chosen_taken names p sel handed end fault) logs) all ≡ selected_changes (part_undone (chosen_taken names p sel handed end fault) logs)
undone-changes names p sel handed end fault logs u us some_chosen are are_kept sound short fits = by_case (are_all marks) refl
  where
    t : Taken
    t = chosen_taken names p sel handed end fault

    ms : List Marked
    ms = mixed t logs

    marks : List Bool
    marks = marks_undone t logs

    own : changes t.log all ≡ selected_changes ms
    own = own-changes names p sel handed end fault logs u us some_chosen are sound short

    by_case : (b : Bool) → are_all marks ≡ b → changes (log_undone t logs) all ≡ selected_changes (part_undone t logs)
    by_case true every =
        ap (λ (log : List ℕ). changes log all) (cond-true (are_all marks) t.log (left_out_text marks t.log all) every) ∙ own
        ∙ sym (kept-whole marks (selected_changes ms) every (marks-length print_of ms)) ∙ kept-marks print_of ms
    by_case false some =
        let log : log_undone t logs ≡ left_out_text marks t.log all = cond-false (are_all marks) t.log (left_out_text marks t.log all) some in
        ap (λ (b : List ℕ). changes b all) log
        ∙ kept-log-changes marks t.log all are_kept sound.agree (subst (λ (b : List ℕ). length b ≤ 4294967295) log fits)
        ∙ ap (kept marks) own ∙ kept-marks print_of ms
