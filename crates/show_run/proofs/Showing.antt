-- What is shown of units, one after the other, of which parts are written on the way.
use Rattle.std.proofs.Common.{◌≡◌, ℕ, Bool, true, false, ◌&&◌, List, [], ◌∷◌, ◌++◌, map, Option, Some, None, Result, Ok, Err, refl, sym, ap, ap₂, subst, ◌∙◌, append_assoc, inl, inr}
use Rattle.std.specs.Prelude.{filter, if◌then◌else◌}
use Rattle.std.specs.Io.KnownBytes.{Appends}
use Rattle.std.proofs.KnownBytes.{Appends-nil, Appends-trans}
use Rattle.std.proofs.lemmas.Bool.{cond-false, cond-true}
use Rattle.blog_choice.specs.Choice.{Choice, chooses_all}
use Rattle.blog_choice.specs.code.Views.{choice_value}
use Rattle.blog_event.specs.declared.fault.Fault.{Fault}
use Rattle.blog_event.specs.declared.fault.Fault.TheVariants.{OutOfMemory}
use Rattle.blog_list.specs.Shown.{changes_in, changes_of, in_front, rows_or}
use Rattle.blog_list.specs.code.Held.{HasWritten, has_no_memory}
use Rattle.blog_list.specs.code.Told.{inside}
use Rattle.blog_request.specs.Wanted.{by_tables, changes_told, concern_of, is_before, is_in_range, is_wanted, is_wanted_unit}
use Rattle.blog_request.specs.declared.wanted.Concern.{Concern}
use Rattle.blog_request.specs.declared.wanted.Concern.TheVariants.{Wanted as IsWanted, PassedOver, Other}
use Rattle.blog_request.specs.declared.wanted.Wanted.{Wanted}
use Rattle.blog_row.specs.declared.order.Order.TheVariants.{Forward}
use Rattle.blog_show.specs.Shown.{ShowsEvents}
use Rattle.blog_show.specs.declared.forms.RowForm.{RowForm}
use Rattle.blog_source.specs.Places.{place_of, position_of}
use Rattle.blog_trans.specs.Changes.{TableCount, counts_of}
use Rattle.blog_trans.specs.Groups.{groups, placed_groups}
use Rattle.blog_trans.specs.Selection.{Selection}
use Rattle.blog_trans.specs.code.InTurn.{in_turn}
use Rattle.blog_trans.specs.code.IndexView.{index_groups, index_selection}
use Rattle.blog_trans.specs.declared.groups.Index.{Index}
use Rattle.blog_units.specs.Units.{Facts, between, facts_of, units}
use Rattle.blog_units.specs.code.UnitsView.{AreGroups, IsJudged, facts_told}
use Rattle.blog_units.specs.declared.unit.Unit.{Unit}
use Rattle.blog_units.specs.declared.unit_facts.UnitFacts.{UnitFacts}
use Rattle.show_run.specs.Shown.{HasShown, ShowsChanges, ShowsIf, ShowsLog, ShowsUnit, ShowsUnits, above, is_at, is_shown, shown_among}
use Rattle.show_run.proofs.Framing.{framed-units}

-- ---- what is written and held

pub shown-none : (form : RowForm) (choice : Choice) (place : ℕ → ℕ) (log : List ℕ) (had : Option (List ℕ)) (text : List ℕ) → HasShown form choice place log [] had had text text
shown-none form choice place log had text = (text, refl, ([], Appends-nil had, refl))

-- a unit, and then others
shown-more : (form : RowForm) (choice : Choice) (place : ℕ → ℕ) (log : List ℕ) (u : Facts) (us : List Facts) (had mid has : Option (List ℕ)) (old held new : List ℕ)
    → ShowsIf true form choice place log u had mid old held → HasShown form choice place log us mid has held new → HasShown form choice place log (u ∷ us) had has old new
shown-more form choice place log u us had mid has old held new (text, first, (part, wrote, split)) (full, left, (more, wrote_more, split_more)) = (
  part ++ full,
  (text, first, subst (λ (t : List ℕ). ShowsUnits form choice place log us t (part ++ full)) split (framed-units form choice place log us part held full left)),
  (part ++ more, Appends-trans had mid has part more wrote wrote_more, append_assoc part more new ∙ ap (λ (t : List ℕ). part ++ t) split_more),
)

-- a unit, which may not be shown, and then others
shown-step : (b : Bool) (form : RowForm) (choice : Choice) (place : ℕ → ℕ) (log : List ℕ) (u : Facts) (us : List Facts) (had mid has : Option (List ℕ)) (old held new : List ℕ)
    → ShowsIf b form choice place log u had mid old held → HasShown form choice place log us mid has held new → HasShown form choice place log (if b then u ∷ us else us) had has old new
shown-step true form choice place log u us had mid has old held new step left = shown-more form choice place log u us had mid has old held new step left
shown-step false form choice place log u us had mid has old held new (same, kept) left =
    subst (λ (o : Option (List ℕ)). HasShown form choice place log us o has old new) same (subst (λ (t : List ℕ). HasShown form choice place log us mid has t new) kept left)

-- ---- whether a unit is shown

pub not-at : (w : Wanted) (positions log : List ℕ) (u : Facts) → is_at positions u ≡ false → is_shown w positions log u ≡ false
not-at w positions log u is = ap (λ (b : Bool). b && is_wanted_unit w log u (changes_of log u)) is

and-false : (a b : Bool) → b ≡ false → (a && b) ≡ false
and-false true b is = is
and-false false b is = refl

pub not-wanted : (w : Wanted) (positions log : List ℕ) (u : Facts) → is_wanted_unit w log u (changes_of log u) ≡ false → is_shown w positions log u ≡ false
not-wanted w positions log u is = and-false (is_at positions u) (is_wanted_unit w log u (changes_of log u)) is

pub at-and-wanted : (w : Wanted) (positions log : List ℕ) (u : Facts) → is_at positions u ≡ true → is_wanted_unit w log u (changes_of log u) ≡ true → is_shown w positions log u ≡ true
at-and-wanted w positions log u at is = ap (λ (b : Bool). b && is_wanted_unit w log u (changes_of log u)) at ∙ is

-- nothing is shown of one that isn't
pub kept-held : (b : Bool) (form : RowForm) (choice : Choice) (place : ℕ → ℕ) (log : List ℕ) (u : Facts) (had : Option (List ℕ)) (text : List ℕ) → b ≡ false → ShowsIf b form choice place log u had had text text
kept-held b form choice place log u had text is = subst (λ (b : Bool). ShowsIf b form choice place log u had had text text) (sym is) (refl, refl)

pub unit-held : (b : Bool) (form : RowForm) (choice : Choice) (place : ℕ → ℕ) (log : List ℕ) (u : Facts) (had has : Option (List ℕ)) (old mid new : List ℕ) → b ≡ true
    → ShowsUnit form choice place log u old mid → HasWritten had has mid new → ShowsIf b form choice place log u had has old new
unit-held b form choice place log u had has old mid new is shown written = subst (λ (b : Bool). ShowsIf b form choice place log u had has old new) (sym is) (mid, shown, written)

-- ---- which units are left

choosing : (f : Facts → Bool) (a b : Bool) (u : Facts) (us : List Facts) → f u ≡ a → filter f (if b then u ∷ us else us) ≡ (if a && b then u ∷ filter f us else filter f us)
choosing f true true u us is = cond-true _ _ _ is
choosing f true false u us is = refl
choosing f false true u us is = cond-false _ _ _ is
choosing f false false u us is = refl

-- the first of some units is in front of the stop
first-of : (w : Wanted) (positions log : List ℕ) (u : Facts) (us : List Facts) → is_before u.start w.stop ≡ true
    → shown_among w positions log (u ∷ us) ≡ (if is_shown w positions log u then u ∷ shown_among w positions log us else shown_among w positions log us)
first-of w positions log u us before =
    ap (λ (vs : List Facts). filter (is_at positions) (filter (λ u. is_wanted_unit w log u (changes_of log u)) vs)) (cond-true (is_before u.start w.stop) (u ∷ in_front w.stop us) [] before)
    ∙ choosing (is_at positions) (is_at positions u) (is_wanted_unit w log u (changes_of log u)) u (filter (λ u. is_wanted_unit w log u (changes_of log u)) (in_front w.stop us)) refl

-- none is left where the first isn't
pub none-of : (w : Wanted) (positions log : List ℕ) (u : Facts) (us left : List Facts) → left ≡ u ∷ us → is_before u.start w.stop ≡ false → shown_among w positions log left ≡ []
none-of w positions log u us left first stopped =
    ap (shown_among w positions log) first
    ∙ ap (λ (vs : List Facts). filter (is_at positions) (filter (λ u. is_wanted_unit w log u (changes_of log u)) vs)) (cond-false (is_before u.start w.stop) (u ∷ in_front w.stop us) [] stopped)

-- the first of the units that are left is gone through
pub shown-first : (w : Wanted) (positions : List ℕ) (form : RowForm) (choice : Choice) (place : ℕ → ℕ) (log : List ℕ) (u : Facts) (left us : List Facts) (had mid has : Option (List ℕ)) (old held new : List ℕ)
    → left ≡ u ∷ us → is_before u.start w.stop ≡ true → ShowsIf (is_shown w positions log u) form choice place log u had mid old held
    → HasShown form choice place log (shown_among w positions log us) mid has held new → HasShown form choice place log (shown_among w positions log left) had has old new
shown-first w positions form choice place log u left us had mid has old held new first before step rest =
    subst (λ (vs : List Facts). HasShown form choice place log vs had has old new) (sym (ap (shown_among w positions log) first ∙ first-of w positions log u us before))
    (shown-step (is_shown w positions log u) form choice place log u (shown_among w positions log us) had mid has old held new step rest)

-- ---- one unit

memory-refused : (A : Type 0) {R : Type 0} (why : Fault) → why ≡ OutOfMemory → has_no_memory {X = Index A} (Err why) ≡ false → R
memory-refused A why is memory = let refused : has_no_memory {X = Index A} (Err why) ≡ true = ap (λ (f : Fault). has_no_memory {X = Index A} (Err f)) is in cc

pub groups-are : {A : Type 0} (log : List ℕ) (start stop : ℕ) (told : Result (Index A) Fault) → AreGroups log (between start stop) told → has_no_memory told ≡ false
    → changes_told told ≡ changes_in log (between start stop)
unfolding changes_in
groups-are {A = A} log start stop (Ok index) (accepted, of, sel) memory =
    ap₂ (λ (b : List ℕ) (s : Selection). Ok (counts_of (groups b s))) of sel ∙ sym (ap (rows_or (counts_of (groups log (between start stop)))) accepted)
groups-are {A = A} log start stop (Err why) (inl is) memory = memory-refused A why is memory
groups-are {A = A} log start stop (Err why) (inr is) memory = sym (ap (rows_or (counts_of (groups log (between start stop)))) is)

-- its changes are those of the log
groups-told : {A : Type 0} (log : List ℕ) (unit : Unit A) → IsJudged log unit → has_no_memory unit.groups ≡ false → changes_told unit.groups ≡ changes_of log (facts_told unit.facts)
groups-told log unit judged memory = groups-are log unit.facts.start unit.facts.stop unit.groups judged memory

-- whether it is wanted, by its facts as they were before it was judged
pub wanted-told : {A : Type 0} (w : Wanted) (log : List ℕ) (unit : Unit A) (facts : UnitFacts) (concern : Concern) → IsJudged log unit → has_no_memory unit.groups ≡ false → unit.facts ≡ facts
    → concern ≡ concern_of w log (facts_told unit.facts) (changes_told unit.groups) → is_wanted concern ≡ is_wanted_unit w log (facts_told facts) (changes_of log (facts_told facts))
wanted-told w log unit facts concern judged memory same is =
    ap is_wanted is ∙ ap (λ (c : Result (List TableCount) Fault). is_wanted (concern_of w log (facts_told unit.facts) c)) (groups-told log unit judged memory)
    ∙ ap (λ (f : UnitFacts). is_wanted_unit w log (facts_told f) (changes_of log (facts_told f))) same

-- one that isn't in the range isn't wanted
pub outside-unwanted : (w : Wanted) (log : List ℕ) (u : Facts) → is_in_range w u ≡ false → is_wanted_unit w log u (changes_of log u) ≡ false
outside-unwanted w log u outside = ap is_wanted (cond-false (is_in_range w u) (if chooses_all (choice_value w.choice) then IsWanted else by_tables (choice_value w.choice) log u (changes_of log u)) Other outside)

-- the rows of the groups are shown, or something is said
pub groups-shown : (form : RowForm) (choice : Choice) (place : ℕ → ℕ) (log : List ℕ) (u : Facts) {A : Type 0} (index : Index A) (old new : List ℕ)
    → AreGroups log (between u.start u.stop) (Ok index) → ShowsEvents form choice place (in_turn Forward (index_groups index)) old new → ShowsUnit form choice place log u old new
groups-shown form choice place log u index old new (accepted, of, sel) shown =
    subst (λ (refused : Option Fault). ShowsChanges form choice place log (between u.start u.stop) refused old new) (sym accepted)
    (subst (λ (s : Selection). ShowsEvents form choice place (in_turn Forward (placed_groups log s)) old new) sel
    (subst (λ (b : List ℕ). ShowsEvents form choice place (in_turn Forward (placed_groups b (index_selection index))) old new) of shown))

pub refusal-shown : (A : Type 0) (form : RowForm) (choice : Choice) (place : ℕ → ℕ) (log : List ℕ) (u : Facts) (why : Fault) (old new said : List ℕ)
    → AreGroups {A = A} log (between u.start u.stop) (Err why) → has_no_memory {X = Index A} (Err why) ≡ false → new ≡ old ++ said → ShowsUnit form choice place log u old new
refusal-shown A form choice place log u why old new said (inl is) memory more = memory-refused A why is memory
refusal-shown A form choice place log u why old new said (inr is) memory more =
    subst (λ (refused : Option Fault). ShowsChanges form choice place log (between u.start u.stop) refused old new) (sym is) (said, more)

-- ---- a log, and several

-- all that was held is written
pub log-shown : (form : RowForm) (name : Option (List ℕ)) (w : Wanted) (places handed : List ℕ) (end : ℕ) (had mid has : Option (List ℕ)) (old new : List ℕ) → old ≡ above form name
    → HasShown form (choice_value w.choice) (place_of handed end) handed (shown_among (inside handed w) (map (position_of handed) places) handed (map facts_of (units handed))) had mid old new
    → Appends mid has new → ShowsLog form name w places handed end had has
log-shown form name w places handed end had mid has old new named (full, shown, (part, wrote, split)) rest = (
  full,
  subst (λ (t : List ℕ). Appends had has t) split (Appends-trans had mid has part new wrote rest),
  subst (λ (t : List ℕ). ShowsUnits form (choice_value w.choice) (place_of handed end) handed (shown_among (inside handed w) (map (position_of handed) places) handed (map facts_of (units handed))) t full) named shown,
)

-- the same by other names of its parts
pub log-same : (form : RowForm) (name own : Option (List ℕ)) (w v : Wanted) (places at handed log : List ℕ) (end stop : ℕ) (had has : Option (List ℕ)) → name ≡ own → w ≡ v → places ≡ at → handed ≡ log → end ≡ stop
    → ShowsLog form name w places handed end had has → ShowsLog form own v at log stop had has
log-same form name own w v places at handed log end stop had has named wanted placed bytes ends shown =
    subst (λ (o : Option (List ℕ)). ShowsLog form o v at log stop had has) named
    (subst (λ (u : Wanted). ShowsLog form name u at log stop had has) wanted
    (subst (λ (ps : List ℕ). ShowsLog form name w ps log stop had has) placed
    (subst (λ (b : List ℕ). ShowsLog form name w places b stop had has) bytes
    (subst (λ (e : ℕ). ShowsLog form name w places handed e had has) ends shown))))
