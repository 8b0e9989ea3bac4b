-- One more event, and what the builder's parts hold.
use Rattle.std.proofs.Common.{arith, rules, ◌≡◌, Bool, true, false, if◌then◌else◌, ℕ, List, [], ◌∷◌, length, reverse, Option, Some, None, option_map, is_some, refl, sym, ap, ◌∙◌, subst, inl, inr}
use Rattle.std.specs.Prelude.{◌⊎◌}
use Rattle.std.proofs.Math.Bool.{and-false}
use Rattle.blog_event.specs.Fault.{first_failing}
use Rattle.blog_event.specs.File.{Placed}
use Rattle.blog_row.specs.declared.kind.RowsKind.{RowsKind}
use Rattle.blog_row.specs.RowsEvent.{has_end_flag}
use Rattle.blog_row.specs.TableMap.{Table}
use Rattle.blog_row.specs.declared.event_kinds.EventKind.{EventKind}
use Rattle.blog_row.specs.declared.event_kinds.EventKind.TheVariants as kind
use Rattle.blog_row.specs.Kinds.{is_begin_kind, is_end_kind, is_map_kind, rows_of_kind}
use Rattle.blog_trans.specs.declared.checker.Checker.{Checker}
use Rattle.blog_trans.specs.declared.checker.KeptRows.{KeptRows}
use Rattle.blog_trans.specs.declared.builder.IndexBuilder.{IndexBuilder}
use Rattle.blog_trans.specs.Selection.{Selection}
use Rattle.blog_trans.specs.Places.{kind_at, is_map, leads_to, place, is_inside, since}
use Rattle.blog_trans.specs.Acceptance.{checks, end_checks, event_fault, HavePassed}
use Rattle.blog_trans.specs.Groups.{PlacedRows, PlacedStatement, PlacedTransaction, kept_rows, first_maps}
use Rattle.blog_trans.specs.code.Progress.{Open, Progress, with_rows, closed, ended_if, rows_taken, advance_by, advance, progress}
use Rattle.blog_trans.specs.code.StatementMaps.{used_of}
use Rattle.blog_trans.specs.code.TablesView.{tables_known, HaveGrown}
use Rattle.blog_trans.specs.code.CheckerView.{IsKept, HasChecked}
use Rattle.blog_trans.specs.code.ListsView.{all_ended, open_behind, between_statements, closed_by}
use Rattle.blog_trans.specs.code.BuilderView.{HasTaken, Keeps, progress_changes, progress_tables}
use Rattle.blog_trans.proofs.Growing.{counts-grown}
use Rattle.blog_trans.proofs.Checking.{knows-quiet}
use Rattle.blog_trans.proofs.ProgressState.{open-inside, open-no-rows, since-rows, since-last}
use Rattle.blog_trans.proofs.ProgressGroups.{none-open}
use Rattle.blog_trans.proofs.ProgressMaps.{taken-maps, taken-closed}
use Rattle.blog_trans.proofs.ProgressFirsts.{ids_of}
use Rattle.blog_trans.proofs.IndexFacts.{some_found}

-- ---- the transactions before an event that passed

-- none is open before a `BEGIN`
pub ended-before : (sel : Selection) (earlier : List Placed) (p : Placed) → kind_at p ≡ kind.Begin → HavePassed sel (p ∷ earlier) → progress sel earlier ≡ all_ended (progress sel earlier).done
ended-before sel earlier p is passed = grind (arith, none-open sel earlier passed.1)

-- inside a transaction one is open
open-there : (sel : Selection) (earlier : List Placed) → HavePassed sel earlier → is_inside (place earlier) ≡ true → (o : Open) × ((progress sel earlier).current ≡ Some o)
open-there sel earlier passed inside = some_found (progress sel earlier).current (open-inside sel earlier passed ∙ inside)

-- before a rows event
pub open-rows-event : (sel : Selection) (earlier : List Placed) (p : Placed) (k : RowsKind) → kind_at p ≡ kind.Rows k → HavePassed sel (p ∷ earlier) → (o : Open) × ((progress sel earlier).current ≡ Some o)
open-rows-event sel earlier p k is passed = open-there sel earlier passed.1 (grind arith)

-- before an end no statement is
pub open-end : (sel : Selection) (earlier : List Placed) → HavePassed sel earlier → first_failing (end_checks earlier) ≡ None
    → (begin : Placed) × (ss : List PlacedStatement) × (progress sel earlier ≡ open_behind (progress sel earlier).done (between_statements begin ss))
open-end sel earlier passed checked =
    let there = open-there sel earlier passed (grind arith) in
    let rows = open-no-rows sel earlier there.0 passed there.1 (grind arith) in
    (there.0.begin, there.0.statements, grind arith)

-- what is kept, told otherwise
pub keeps-as : {A : Type 0} (k l : Progress) (w : IndexBuilder A) → k ≡ l → Keeps k w → Keeps l w
keeps-as k l w same = subst (λ x. Keeps x w) same

-- with the open transaction named
pub as-open : {A : Type 0} (k : Progress) (o : Open) (w : IndexBuilder A) → k.current ≡ Some o → Keeps k w → Keeps (open_behind k.done o) w
as-open k o w current = keeps-as k (open_behind k.done o) w (λ i. record { done = k.done; current = current i })

-- ---- ends

-- what a `COMMIT` and an Xid of this length have in common
pub record IsEnding (sel : Selection) (earlier : List Placed) (p : Placed) : Type 0 where
  pub ends : is_end_kind (kind_at p) ≡ true
  pub checks_are : event_fault sel earlier p ≡ first_failing (end_checks earlier)
  pub progress_is : progress sel (p ∷ earlier) ≡ ended_if p (progress sel earlier)

pub ending : (sel : Selection) (earlier : List Placed) (p : Placed) → (kind_at p ≡ kind.Commit) ⊎ ((kind_at p ≡ kind.Xid) × (length p.event.body ≡ 8)) → IsEnding sel earlier p
ending sel earlier p (inl is) = record { ends = rw is refl; checks_are = rw is refl; progress_is = rw is refl }
ending sel earlier p (inr xid) = record { ends = rw (xid.0) refl; checks_are = rw (xid.0, xid.1) refl; progress_is = rw (xid.0) refl }

-- ---- a rows event

-- a statement of the used maps, closed either way
closed-same : (sel : Selection) (earlier : List Placed) (p : Placed) (o : Open) → HavePassed sel (p ∷ earlier) → (progress sel earlier).current ≡ Some o
    → closed_by (used_of sel (p ∷ since earlier)) (with_rows (kept_rows sel (reverse (since earlier)) p) o) ≡ closed (reverse (p ∷ since earlier)) (with_rows (kept_rows sel (reverse (since earlier)) p) o)
closed-same sel earlier p o passed current = search (rules, taken-closed)

-- no maps are used where no rows event is kept
no-maps : (ps : List Placed) → first_maps [] ps ≡ []
no-maps [] = refl
no-maps (p ∷ ps) = rw (and-false (is_map p)) (no-maps ps)

pub no-used : (sel : Selection) (earlier : List Placed) (p : Placed) (o : Open) → HavePassed sel (p ∷ earlier) → (progress sel earlier).current ≡ Some o
    → (with_rows (kept_rows sel (reverse (since earlier)) p) o).rows ≡ [] → used_of sel (p ∷ since earlier) ≡ []
no-used sel earlier p o passed current none =
    sym (taken-maps sel earlier p o passed current) ∙ ap (λ rs. first_maps (ids_of rs) (reverse (p ∷ since earlier))) none ∙ no-maps (reverse (p ∷ since earlier))

-- one that is kept is the log's
pub kept-some : {A : Type 0} (tables : List Table) (at : ℕ) (kept : KeptRows) (r : Option PlacedRows) (done : List PlacedTransaction) (o : Open) (w : IndexBuilder A)
    → ((x : PlacedRows) → IsKept tables at (Some kept) (Some x) → Keeps (open_behind done (with_rows (Some x) o)) w) → IsKept tables at (Some kept) r → Keeps (open_behind done (with_rows r o)) w
kept-some tables at kept None done o w keeps told = absurd told
kept-some tables at kept (Some x) done o w keeps told = keeps x told

-- ---- what the builder holds after an event

-- one more table among the selected ones changes nothing that is kept
pub keeps-grown : {A : Type 0} (k : Progress) (w : IndexBuilder A) (checker : Checker A) → HaveGrown (tables_known w.checker.layouts) (tables_known checker.layouts)
    → Keeps k w → Keeps k (record { checker = checker; lists = w.lists; counts = w.counts })
keeps-grown k w checker grown keeps = record {
  lists = keeps.lists;
  counts = counts-grown (tables_known w.checker.layouts) (tables_known checker.layouts) (progress_changes k) (progress_tables k) w.counts grown keeps.counts;
}

-- one that is nothing to the groups
pub walks-other : {A : Type 0} (w : IndexBuilder A) (checker : Checker A) (sel : Selection) (earlier : List Placed) (p : Placed) → HaveGrown (tables_known w.checker.layouts) (tables_known checker.layouts)
    → ((k : Progress) → advance sel earlier p k ≡ k) → (event_fault sel earlier p ≡ None) × HasChecked sel (since (p ∷ earlier)) (p ∷ earlier) checker → HasTaken sel earlier w
    → (event_fault sel earlier p ≡ None) × HasTaken sel (p ∷ earlier) (record { checker = checker; lists = w.lists; counts = w.counts })
walks-other w checker sel earlier p grown same knows h =
    let keeps = keeps-as _ _ _ (sym (same (progress sel earlier))) (keeps-grown (progress sel earlier) w checker grown h.keeps) in
    (knows.0, record { passed = (knows.0, h.passed); checker = knows.1; keeps = keeps })

-- one of a kind that leads nowhere either
pub walks-quiet : {A : Type 0} (w : IndexBuilder A) (sel : Selection) (earlier : List Placed) (p : Placed) (k : EventKind) → kind_at p ≡ k → first_failing (checks sel earlier p k) ≡ None
    → is_begin_kind k ≡ false → is_map_kind k ≡ false → is_some (rows_of_kind k) ≡ false → leads_to k ≡ None → ((x : Progress) → advance_by k sel earlier p x ≡ x)
    → HasTaken sel earlier w → (event_fault sel earlier p ≡ None) × HasTaken sel (p ∷ earlier) w
walks-quiet w sel earlier p k is fits no_begin no_map no_rows nowhere same h =
    let led : w.checker.place ≡ place (p ∷ earlier) = h.checker.place_is ∙ rw (is, nowhere) refl in
    let knows = knows-quiet sel p earlier w.checker w.checker.place (rw is no_begin) (rw is no_map) (rw is no_rows) led h.checker in
    walks-other w w.checker sel earlier p (inl refl) (λ x. rw is (same x)) (rw is fits, knows) h

module _ {A : Type 0} (w : IndexBuilder A) (sel : Selection) (earlier : List Placed) (p : Placed) (passed : HavePassed sel (p ∷ earlier)) where
  -- a rows event, which may be the last of its statement
  module _ (k : RowsKind) (o : Open) (is : kind_at p ≡ kind.Rows k) (current : (progress sel earlier).current ≡ Some o) where
    abbrev pub taken : Open
    taken = with_rows (kept_rows sel (reverse (since earlier)) p) o

    rows-progress : (last : Bool) → has_end_flag p.event.body ≡ last → progress sel (p ∷ earlier) ≡ open_behind (progress sel earlier).done (if last then closed (reverse (p ∷ since earlier)) taken else taken)
    rows-progress last flag =
        ap (λ j. advance_by j sel earlier p (progress sel earlier)) is
        ∙ ap (λ c. record { done = (progress sel earlier).done; current = option_map (rows_taken sel earlier p) c }) current
        ∙ ap (λ b. open_behind (progress sel earlier).done (if b then closed (reverse (p ∷ since earlier)) taken else taken)) flag

    pub walks-rows : has_end_flag p.event.body ≡ false → HasChecked sel (p ∷ since earlier) (p ∷ earlier) w.checker → Keeps (open_behind (progress sel earlier).done taken) w → HasTaken sel (p ∷ earlier) w
    walks-rows flag knows keeps = record {
      passed = passed;
      checker = subst (λ st. HasChecked sel st (p ∷ earlier) w.checker) (sym (since-rows earlier p (ap is_begin_kind is) flag)) knows;
      keeps = subst (λ x. Keeps x w) (sym (rows-progress false flag)) keeps;
    }

    pub walks-last : has_end_flag p.event.body ≡ true → HasChecked sel [] (p ∷ earlier) w.checker
        → Keeps (open_behind (progress sel earlier).done (closed_by (used_of sel (p ∷ since earlier)) taken)) w → HasTaken sel (p ∷ earlier) w
    walks-last flag knows keeps = record {
      passed = passed;
      checker = subst (λ st. HasChecked sel st (p ∷ earlier) w.checker) (sym (since-last earlier p (ap (λ j. is_some (rows_of_kind j)) is) flag)) knows;
      keeps = subst (λ x. Keeps x w) (ap (open_behind (progress sel earlier).done) (closed-same sel earlier p o passed current) ∙ sym (rows-progress true flag)) keeps;
    }
