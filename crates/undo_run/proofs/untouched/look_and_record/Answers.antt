use Rattle.std.proofs.Common.{◌≡◌, ◌+◌, ◌++◌, ◌≤◌, ℕ, List, [], ◌∷◌, length, map, true, None, ap, subst, sym, ◌∙◌, arith}
use Rattle.blog_choice.specs.Choice.{Choice, Name}
use Rattle.blog_choice.specs.code.ChosenView.{names_choice}
use Rattle.blog_choice.specs.code.Views.{name_value}
use Rattle.blog_followed.proofs.OfSteps.{are-of-others}
use Rattle.blog_later.specs.Among.{others_of, selected_in, touches_by}
use Rattle.blog_later.specs.Later.{changes_in, later_units}
use Rattle.blog_later.specs.Prints.{AreKept, left_by}
use Rattle.blog_later.specs.code.LookedView.{left_before}
use Rattle.blog_source.specs.code.SourceView.{end_of, fault_of, log_of}
use Rattle.blog_trans.specs.Changes.{Change, counts_of}
use Rattle.blog_trans.specs.Groups.{groups}
use Rattle.blog_trans.specs.Selection.{selection_of}
use Rattle.blog_units.specs.Units.{Facts}
use Rattle.blog_untouched.proofs.OfSteps.{first-rows, first-taken}
use Rattle.blog_untouched.proofs.PutRecorded.{none-before}
use Rattle.undo_run.specs.Taken.{tables_named, tables_taken}
use Rattle.undo_run.specs.Units.{chosen_taken, chosen_units, step_of, units_of_part, units_on}
use Rattle.undo_run.specs.code.Leaves.{Records}
use Rattle.undo_run.specs.code.NamesView.{names_told}
use Rattle.undo_run.specs.code.Steps.{chosen_by, chosen_changes}
use Rattle.undo_run.specs.code.Tracks.{TracksAmong}
use Rattle.undo_run.proofs.Counted.{selected-chosen, units-count}
use Rattle.undo_run.proofs.Recorded.{all-recorded, not-recorded}
use Rattle.undo_run.proofs.untouched.look_and_record.Goals as goal

pub returns-in-Ok : goal.returns-in-Ok
returns-in-Ok g c =
    let source = c.args.source.now in
    let sel = selection_of c.args.inside.now in
    let handed = log_of source in
    let p = chosen_by c.args.among.now sel handed in
    let t = chosen_taken (names_told c.args.logs.now) p sel handed (end_of source) (fault_of source) in
    let left = c.sorted-left.result in
    let prints : ℕ → List ℕ = λ k. (left_before left k).rows in
    let choice : Choice = names_choice c.in_ok-names.names in
    let as_choice : List Name → Choice = λ names. record { database = None; tables = names; excluded = [] } in
    let named : choice ≡ tables_taken t =
    c.in_ok-names.ensures ∙ ap (λ names. as_choice (map name_value names)) c.deref.ensures.value ∙ ap as_choice c.in_ok-tables.ensures
    ∙ (λ i. tables_named (counts_of (groups (c.requires.kept i) (c.requires.selection i)))) in
    let css = chosen_changes sel handed (chosen_units p sel handed) in
    let few = c.requires.left.few in
    let are : selected_in t.steps ≡ css = selected-chosen p sel handed in
    let many = ap length are in
    let same : (k : ℕ) → AreKept (left_by k (selected_in t.steps)) (left_before left k) =
    λ k. subst (λ (ds : List (List Change)). AreKept (left_by k ds) (left_before left k)) (sym are) (c.sorted-left.ensures css c.requires.left k) in
    let units : List ℕ → List Facts = λ bytes. later_units bytes sel.start in
    let first = c.in_ok-tracked.tracked in
    let tracks = subst (λ (bytes : List ℕ). TracksAmong p sel bytes (units bytes) left c.args.follows first) c.requires.bytes
    (c.in_ok-tracked.ensures p (c.requires.chosen ∙ ap (λ (bytes : List ℕ). map p (units bytes)) (sym c.requires.bytes))) in
    let rows = tracks.rows ∙ first-rows p sel handed (units_of_part sel handed) in
    let taken = tracks.taken ∙ first-taken prints (none-before left.rows.items) p sel handed 0 (units_of_part sel handed) in
    all-recorded g.L.Read.remaining c.args.later.items t (left_before left) 4294967295 choice (0 + touches_by (left_before left) p handed 0 (units_on p sel handed)) (changes_in handed (others_of p (units_on p sel handed))) c.args.follows first _ named
    (units-count (left_before left) 4294967295 p sel handed (c.sorted-left.ensures css c.requires.left) (omega (arith, few))) same (omega (arith, few, many)) rows taken
    (sym (are-of-others p sel handed (units_on p sel handed))) tracks.same tracks.followed
    (c.in-Ok.ensures (0 + touches_by (left_before left) p handed 0 (units_on p sel handed)) (t.rest ∷ []) (c.in_ok-rest.ensures p c.requires.chosen))

pub returns : goal.returns
returns g c =
    let source = c.args.source.now in
    let sel = selection_of c.args.inside.now in
    let handed = log_of source in
    let p = chosen_by c.args.among.now sel handed in
    let t = chosen_taken (names_told c.args.logs.now) p sel handed (end_of source) (fault_of source) in
    let left = c.sorted-left.result in
    let m = 0 + touches_by (left_before left) p handed 0 (units_on p sel handed) in
    not-recorded g.L.Read.remaining c.args.later.items t (left_before left 4294967295) (names_choice c.in_ok-names.names) m (t.rest ∷ []) (Records true (left_before left 4294967295) c.in_ok-tracked.tracked c.look_into_all.new.tracked) c.args.follows c.in-Err.fault
    (c.in-Err.ensures m (t.rest ∷ []) (c.in_ok-rest.ensures p c.requires.chosen))
