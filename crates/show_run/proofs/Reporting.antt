-- What is said of units that are added to a report in turn.
use Rattle.std.proofs.Common.{◌≡◌, ◌+◌, ◌-◌, ◌^◌, ℕ, Bool, true, false, List, [], ◌∷◌, ◌++◌, length, Option, Some, None, Result, Ok, Err, refl, sym, ap, ap₂, subst, ◌∙◌, arith}
use Rattle.std.specs.Prelude.{filter, fold, if◌then◌else◌, min, option_map, slice_get, unwrap_or}
use Rattle.std.specs.Option.{option_map_or}
use Rattle.std.proofs.lemmas.Bool.{cond-false, cond-true}
use Rattle.blog_choice.specs.Choice.{Choice, chooses}
use Rattle.blog_event.specs.File.{Placed}
use Rattle.blog_event.specs.declared.fault.Fault.{Fault}
use Rattle.blog_list.specs.Shown.{changes_of, in_front, wanted_of as wanted_among}
use Rattle.blog_list.specs.code.Held.{has_no_memory}
use Rattle.blog_report.specs.Said.{Said, nothing_said, with_rows}
use Rattle.blog_report.specs.Sums.{at_most, none, plus}
use Rattle.blog_report.specs.code.TablesView.{table_key}
use Rattle.blog_report.specs.declared.sums.RowSums.{RowSums}
use Rattle.blog_request.specs.Wanted.{changes_told, is_before, is_wanted_unit}
use Rattle.blog_request.specs.declared.wanted.Wanted.{Wanted}
use Rattle.blog_source.specs.Found.{found_of}
use Rattle.blog_source.specs.Handed.{handed_log}
use Rattle.blog_sum.specs.declared.fault.SumFault.{SumFault}
use Rattle.blog_trans.specs.Changes.{TableCount, counts_of}
use Rattle.blog_trans.specs.Groups.{PlacedTransaction, groups, placed_groups}
use Rattle.blog_trans.specs.Selection.{Selection}
use Rattle.blog_trans.specs.code.IndexView.{index_bytes, index_selection}
use Rattle.blog_trans.specs.declared.groups.Index.{Index}
use Rattle.blog_units.specs.Units.{Facts, between}
use Rattle.blog_units.specs.code.UnitsView.{AreGroups, IsJudged, facts_told}
use Rattle.blog_units.specs.declared.unit.Unit.{Unit}
use Rattle.list_run.specs.Listed.{IsRead, Listing, NamedLog, end_of, or_later, wanted_of}
use Rattle.list_run.specs.declared.given.GivenLog.{GivenLog}
use Rattle.show_run.specs.Reported.{IsReportOf, chosen, rows_of, seconds_from, sum_rows, units_from, wanted_units, with_changes, with_log, with_reported, with_tables, with_units}
use Rattle.show_run.specs.code.Becomes.{Reports, plus_if, seconds_told, with_if}
use Rattle.show_run.proofs.Showing.{groups-are}

-- ---- numbers

capped : (a b m : ℕ) → min (min a m + b) m ≡ min (a + b) m
capped a b m = omega arith

no-more : (a m : ℕ) → min a m ≡ a → a ≡ min (a + 0) m
no-more a m fits = omega (arith, fits)

idle : (a m : ℕ) → min (min a m) m ≡ min a m
idle a m = omega arith

in-parts : (units now k rest new m : ℕ) → now ≡ min (units + min k m) m → new ≡ min (now + rest) m → new ≡ min (units + (k + rest)) m
in-parts units now k rest new m more is = omega (arith, more, is)

one-more : (units now left n all m : ℕ) → n ≡ 1 + left → now ≡ min (units + 1) m → min (units + n) m ≡ all → min (now + left) m ≡ all
one-more units now left n all m one more is = omega (arith, one, more, is)

no-other : (units now left all m : ℕ) → now ≡ min (units + 0) m → min (units + left) m ≡ all → min (now + left) m ≡ all
no-other units now left all m more is = omega (arith, more, is)

all-counted : (units left all m : ℕ) → min units m ≡ units → min (units + left) m ≡ all → left ≡ 0 → units ≡ all
all-counted units left all m fits is none = omega (arith, fits, is, none)

zero-within : (m : ℕ) → 0 ≡ min 0 m
zero-within m = omega arith

pub zero-most : 0 ≡ at_most 0
zero-most = zero-within (2 ^ 64 - 1)

pub none-yet : (n : ℕ) → at_most (0 + n) ≡ at_most n
none-yet n = let same : 0 + n ≡ n = omega arith in ap at_most same

pub fits-most : (now n : ℕ) → now ≡ at_most n → at_most now ≡ now
fits-most now n is = ap at_most is ∙ idle n (2 ^ 64 - 1) ∙ sym is

-- ---- the seconds of a unit

pub no-seconds : (time : ℕ) (ts : List PlacedTransaction) → length ts ≡ 0 → 0 ≡ seconds_from time ts
no-seconds time [] none = refl
no-seconds time (t ∷ ts) none = absurd (omega (arith, none))

seconds-of : (time : ℕ) (last : Option PlacedTransaction) (p : Placed) → option_map (λ t. t.end) last ≡ Some p → p.event.timestamp - time ≡ option_map_or (λ t. t.end.event.timestamp - time) last 0
seconds-of time (Some t) p is = ap (λ (o : Option Placed). (unwrap_or o p).event.timestamp - time) (sym is)
seconds-of time None p is = let no : None ≡ Some p = is in cc

pub last-seconds : (time : ℕ) (ts : List PlacedTransaction) (n : ℕ) (p : Placed) → n ≡ length ts - 1 → option_map (λ t. t.end) (slice_get ts n) ≡ Some p → p.event.timestamp - time ≡ seconds_from time ts
last-seconds time ts n p at is = seconds-of time (slice_get ts (length ts - 1)) p (subst (λ (m : ℕ). option_map (λ t. t.end) (slice_get ts m) ≡ Some p) at is)

-- ---- the rows of tables

-- rows, and those of tables one by one
abbrev pub rows_on : RowSums → List TableCount → RowSums
rows_on rows [] = rows
rows_on rows (c ∷ cs) = rows_on (plus rows (rows_of c)) cs

abbrev capped_rows : ℕ → ℕ → ℕ → RowSums
capped_rows a b c = record { inserts = at_most a; updates = at_most b; deletes = at_most c }

more-rows : (a b c : ℕ) (t : TableCount) → plus (capped_rows a b c) (rows_of t) ≡ capped_rows (a + t.inserts) (b + t.updates) (c + t.deletes)
more-rows a b c t = λ j. record {
  inserts = capped a t.inserts (2 ^ 64 - 1) j;
  updates = capped b t.updates (2 ^ 64 - 1) j;
  deletes = capped c t.deletes (2 ^ 64 - 1) j;
}

rows-on : (a b c : ℕ) (cs : List TableCount)
    → rows_on (capped_rows a b c) cs ≡ capped_rows (fold (λ n t. n + t.inserts) a cs) (fold (λ n t. n + t.updates) b cs) (fold (λ n t. n + t.deletes) c cs)
rows-on a b c [] = refl
rows-on a b c (t ∷ cs) = ap (λ (rows : RowSums). rows_on rows cs) (more-rows a b c t) ∙ rows-on (a + t.inserts) (b + t.updates) (c + t.deletes) cs

none-capped : none ≡ capped_rows 0 0 0
none-capped = λ j. record { inserts = zero-most j; updates = zero-most j; deletes = zero-most j }

pub rows-all : (cs : List TableCount) → rows_on none cs ≡ sum_rows cs
rows-all cs = ap (λ (rows : RowSums). rows_on rows cs) none-capped ∙ rows-on 0 0 0 cs

pub on-both : (rows : RowSums) (cs ds : List TableCount) → rows_on (rows_on rows cs) ds ≡ rows_on rows (cs ++ ds)
on-both rows [] ds = refl
on-both rows (c ∷ cs) ds = on-both (plus rows (rows_of c)) cs ds

-- a table that may be chosen, and others
tables-by : (b : Bool) (c : TableCount) (cs : List TableCount) (s : Said)
    → with_tables (if b then c ∷ cs else cs) s ≡ with_tables cs (if b then with_rows (table_key c.table.schema c.table.name) (rows_of c) s else s)
tables-by true c cs s = refl
tables-by false c cs s = refl

pub tables-first : (choice : Choice) (c : TableCount) (cs : List TableCount) (s : Said) → with_tables (chosen choice (c ∷ cs)) s ≡ with_tables (chosen choice cs) (with_if choice c s)
tables-first choice c cs s = tables-by (chooses choice c.table.schema c.table.name) c (chosen choice cs) s

pub rows-by : (b : Bool) (c : TableCount) (cs : List TableCount) (rows : RowSums) → rows_on rows (if b then c ∷ cs else cs) ≡ rows_on (if b then plus rows (rows_of c) else rows) cs
rows-by true c cs rows = refl
rows-by false c cs rows = refl

pub rows-first : (choice : Choice) (c : TableCount) (cs : List TableCount) (rows : RowSums) → rows_on rows (chosen choice (c ∷ cs)) ≡ rows_on (plus_if choice c rows) (chosen choice cs)
rows-first choice c cs rows = rows-by (chooses choice c.table.schema c.table.name) c (chosen choice cs) rows

-- ---- a unit

told-so : {A : Type 0} (n : ℕ) (place : ℕ → ℕ) (log : List ℕ) (choice : Choice) (u : Facts) (told : Result (Index A) Fault) (s : Said) → AreGroups log (between u.start u.stop) told → has_no_memory told ≡ false
    → with_changes n place choice u (seconds_told u.time told) (changes_told told) s ≡ with_reported n place log choice u s
told-so n place log choice u (Ok index) s (accepted, of, sel) memory =
    ap₂ (λ (b : List ℕ) (x : Selection). with_changes n place choice u (seconds_from u.time (placed_groups b x)) (Ok (counts_of (groups (index_bytes index) (index_selection index)))) s) of sel
    ∙ ap (λ (r : Result (List TableCount) Fault). with_changes n place choice u (seconds_from u.time (placed_groups log (between u.start u.stop))) r s)
    (groups-are log u.start u.stop (Ok index) (accepted, of, sel) memory)
told-so {A} n place log choice u (Err why) s refused memory =
    ap (λ (r : Result (List TableCount) Fault). with_changes n place choice u (seconds_from u.time (placed_groups log (between u.start u.stop))) r s)
    (groups-are {A = A} log u.start u.stop (Err why) refused memory)

-- a unit is added as it is in the log
pub reported-told : {A : Type 0} (n : ℕ) (place : ℕ → ℕ) (log : List ℕ) (choice : Choice) (unit : Unit A) (s : Said) → IsJudged log unit → has_no_memory unit.groups ≡ false
    → with_changes n place choice (facts_told unit.facts) (seconds_told unit.facts.time unit.groups) (changes_told unit.groups) s ≡ with_reported n place log choice (facts_told unit.facts) s
reported-told n place log choice unit s judged memory = told-so n place log choice (facts_told unit.facts) unit.groups s judged memory

-- ---- the units of a log

-- the first of some units is in front of the stop
first-wanted : (w : Wanted) (log : List ℕ) (u : Facts) (us left : List Facts) → left ≡ u ∷ us → is_before u.start w.stop ≡ true
    → wanted_among w log left ≡ (if is_wanted_unit w log u (changes_of log u) then u ∷ wanted_among w log us else wanted_among w log us)
first-wanted w log u us left first before =
    ap (wanted_among w log) first
    ∙ ap (λ (vs : List Facts). filter (λ u. is_wanted_unit w log u (changes_of log u)) vs) (cond-true (is_before u.start w.stop) (u ∷ in_front w.stop us) [] before)

-- none is left where the first isn't
pub none-wanted : (w : Wanted) (log : List ℕ) (u : Facts) (us left : List Facts) → left ≡ u ∷ us → is_before u.start w.stop ≡ false → wanted_among w log left ≡ []
none-wanted w log u us left first stopped =
    ap (wanted_among w log) first
    ∙ ap (λ (vs : List Facts). filter (λ u. is_wanted_unit w log u (changes_of log u)) vs) (cond-false (is_before u.start w.stop) (u ∷ in_front w.stop us) [] stopped)

units-by : (b : Bool) (n : ℕ) (place : ℕ → ℕ) (log : List ℕ) (choice : Choice) (u : Facts) (us : List Facts) (s : Said)
    → with_units n place log choice (if b then u ∷ us else us) s ≡ with_units n place log choice us (if b then with_reported n place log choice u s else s)
units-by true n place log choice u us s = refl
units-by false n place log choice u us s = refl

-- the first of those that are left is added, if it is wanted
pub units-first : (w : Wanted) (n : ℕ) (place : ℕ → ℕ) (log : List ℕ) (choice : Choice) (u : Facts) (us left : List Facts) (s : Said) → left ≡ u ∷ us → is_before u.start w.stop ≡ true
    → with_units n place log choice (wanted_among w log left) s
    ≡ with_units n place log choice (wanted_among w log us) (if is_wanted_unit w log u (changes_of log u) then with_reported n place log choice u s else s)
units-first w n place log choice u us left s first before =
    ap (λ (vs : List Facts). with_units n place log choice vs s) (first-wanted w log u us left first before)
    ∙ units-by (is_wanted_unit w log u (changes_of log u)) n place log choice u (wanted_among w log us) s

count-by : (b : Bool) (u : Facts) (us : List Facts) (units now all : ℕ) → now ≡ at_most (units + (if b then 1 else 0)) → at_most (units + length (if b then u ∷ us else us)) ≡ all → at_most (now + length us) ≡ all
count-by true u us units now all more is = one-more units now (length us) (length (u ∷ us)) all (2 ^ 64 - 1) (omega arith) more is
count-by false u us units now all more is = no-other units now (length us) all (2 ^ 64 - 1) more is

-- it is counted
pub count-first : (w : Wanted) (log : List ℕ) (u : Facts) (us left : List Facts) (added : Bool) (units now all : ℕ) → left ≡ u ∷ us → is_before u.start w.stop ≡ true
    → added ≡ is_wanted_unit w log u (changes_of log u) → now ≡ at_most (units + (if added then 1 else 0)) → at_most (units + length (wanted_among w log left)) ≡ all
    → at_most (now + length (wanted_among w log us)) ≡ all
count-first w log u us left added units now all first before told more is =
    count-by added u (wanted_among w log us) units now all more
    (ap (λ (vs : List Facts). at_most (units + length vs))
    (ap (λ (b : Bool). if b then u ∷ wanted_among w log us else wanted_among w log us) told ∙ sym (first-wanted w log u us left first before)) ∙ is)

pub count-end : (us : List Facts) (units all : ℕ) → at_most units ≡ units → at_most (units + length us) ≡ all → us ≡ [] → units ≡ all
count-end us units all fits is none = all-counted units (length us) all (2 ^ 64 - 1) fits is (ap length none)

-- ---- logs

-- none is left
pub reports-rest : {R : Type 0} (known : R → Option (List ℕ)) (l : Listing) (n : ℕ) (left : List (GivenLog R)) (count : ℕ) (s : Said) → length left ≡ 0 → at_most count ≡ count
    → Reports known l n left None count count s s
reports-rest known l n [] count s none fits = ([], tt, refl, no-more count (2 ^ 64 - 1) fits, refl)
reports-rest known l n (given ∷ later) count s none fits = absurd (omega (arith, none))

-- the first of those that are left is added
pub reports-first : {R : Type 0} (known : R → Option (List ℕ)) (l : Listing) (n next : ℕ) (given : GivenLog R) (left later : List (GivenLog R)) (log : NamedLog) (fault : Option SumFault)
    (end : Option (ℕ × SumFault)) (count k now more : ℕ) (old mid new : Said) → left ≡ given ∷ later → next ≡ 1 + n → IsRead known given log → fault ≡ end_of l n log
    → k ≡ at_most (length (wanted_units (wanted_of l n) (handed_log l.how log.bytes))) → now ≡ at_most (count + k)
    → mid ≡ with_log n (wanted_of l n) (handed_log l.how log.bytes) (found_of l.how log.bytes).end old
    → Reports known l next later end now more mid new → Reports known l n left (or_later n fault end) count more old new
reports-first known l n next given left later log fault end count k now more old mid new first after read ends units counts is rest =
    let behind = subst (λ (m : ℕ). Reports known l m later end now more mid new) after rest in
    let (logs, are, last, counted, said) = subst (λ (s : Said). Reports known l (1 + n) later end now more s new) is behind in
    subst (λ (gs : List (GivenLog _)). Reports known l n gs (or_later n fault end) count more old new) (sym first) (
      log ∷ logs,
      (read, are),
      ap (or_later n (end_of l n log)) last ∙ ap (λ (f : Option SumFault). or_later n f end) (sym ends),
      in-parts count now (length (wanted_units (wanted_of l n) (handed_log l.how log.bytes))) (units_from l (1 + n) logs) more (2 ^ 64 - 1) (counts ∙ ap (λ (m : ℕ). at_most (count + m)) units) counted,
      said,
    )

-- all are added to nothing
pub all-reported : {R : Type 0} (known : R → Option (List ℕ)) (l : Listing) (givens : List (GivenLog R)) (end : Option (ℕ × SumFault)) (count : ℕ) (said old : Said) → old ≡ nothing_said
    → Reports known l 0 givens end 0 count old said → IsReportOf known l givens end count said
all-reported known l givens end count said old nothing reports =
    let (logs, are, last, counted, is) = subst (λ (s : Said). Reports known l 0 givens end 0 count s said) nothing reports in
    (logs, are, last, counted ∙ none-yet (units_from l 0 logs), is)
