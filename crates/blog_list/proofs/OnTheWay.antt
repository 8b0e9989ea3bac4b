-- What is listed of a log, on its way: which units are done, what is written and held of their lines, and what is counted.
use Rattle.std.proofs.Common.{◌≡◌, ℕ, ◌+◌, Bool, true, false, List, [], ◌∷◌, ◌++◌, length, map, Result, Ok, Err, refl, sym, ap, ap₂, subst, ◌∙◌, Option, append_assoc, append-nil, arith, length-append, inl, inr}
use Rattle.std.specs.Prelude.{filter, if◌then◌else◌, string_bytes}
use Rattle.std.specs.List.{count_by}
use Rattle.std.specs.Option.{option_map_or}
use Rattle.std.specs.Result.{is_err, result_ok}
use Rattle.std.specs.Io.KnownBytes.{Appends}
use Rattle.std.proofs.KnownBytes.{Appends-nil, Appends-trans}
use Rattle.std.proofs.lemmas.Bool.{cond-true, cond-false}
use Rattle.std.proofs.lemmas.List.Sums.{sum_by-cons, sum_by_push}
use Rattle.jiff.specs.Types.{TimeZone}
use Rattle.jiff.specs.Words.{plain_zone}
use Rattle.blog_event.specs.declared.fault.Fault.{Fault}
use Rattle.blog_event.specs.declared.fault.Fault.TheVariants.{OutOfMemory}
use Rattle.blog_device.specs.Devices.{AppendsBeginning}
use Rattle.blog_trans.specs.Changes.{TableCount, counts_of}
use Rattle.blog_trans.specs.Groups.{groups}
use Rattle.blog_trans.specs.declared.groups.Index.{Index}
use Rattle.blog_trans.specs.Selection.{Selection}
use Rattle.blog_units.specs.Units.{Facts, between}
use Rattle.blog_units.specs.declared.unit.Unit.{Unit}
use Rattle.blog_units.specs.code.UnitsView.{AreGroups, IsJudged, facts_told}
use Rattle.blog_request.specs.declared.wanted.Concern.{Concern}
use Rattle.blog_request.specs.declared.wanted.Concern.TheVariants.{Wanted as IsWanted, PassedOver, Other}
use Rattle.blog_request.specs.declared.wanted.Wanted.{Wanted}
use Rattle.blog_request.specs.Wanted.{changes_told, concern_of, is_before, is_in_range, is_wanted, is_wanted_unit}
use Rattle.blog_list.specs.declared.column.TimeColumn.{TimeColumn}
use Rattle.blog_list.specs.declared.listing.Form.{Form}
use Rattle.blog_list.specs.declared.listing.Form.TheVariants.{Text, Json}
use Rattle.blog_list.specs.declared.totals.Totals.{Totals}
use Rattle.blog_list.specs.Lines.{LogList, Refusal, Shown, all_refused, all_rows, rows_of, rows_shown, sum_damaged, sum_passed_over, sum_refused, sum_rows, sum_units, totals_lines}
use Rattle.blog_list.specs.Shown.{changes_in, changes_of, changes_shown, in_front, is_passed, passed_over_of, rows_or, shown, shown_with, wanted_of}
use Rattle.blog_list.specs.Texts.{AreLines, IsLine, name_above, totals_of}
use Rattle.blog_choice.specs.Choice.{Choice}
use Rattle.blog_list.specs.Sorted.{IsArranged}
use Rattle.blog_list.specs.declared.listing.Sorting.{Sorting}
use Rattle.blog_list.specs.declared.listing.Sorting.TheVariants.{Place, Rows}
use Rattle.blog_list.specs.code.Held.{HasBegun, HasListed, HasWritten, Sheet, has_no_memory}
use Rattle.blog_list.specs.code.Told.{PutsLineIn, shown_told}
use Rattle.blog_list.specs.code.Totals.{AreTotals, CountsLog, HasAdded, HasCounted, HasDamaged, totals_put, totals_text}

-- ---- one unit more

lines-more : (form : Form) (zone : TimeZone) (gtids : Bool) (width : ℕ) (name : Option (List ℕ)) (done : List Shown) (s : Shown) (lines line : List ℕ)
    → AreLines form zone gtids width name done lines → IsLine form zone gtids width name s line → AreLines form zone gtids width name (done ++ s ∷ []) (lines ++ line)
lines-more form zone gtids width name [] s lines line are is = (line, [], is, refl, ap (λ (text : List ℕ). text ++ line) are ∙ sym (append-nil line))
lines-more form zone gtids width name (x ∷ xs) s lines line (first, rest, one, others, split) is =
    (first, rest ++ line, one, lines-more form zone gtids width name xs s rest line others is, ap (λ (text : List ℕ). text ++ line) split ∙ append_assoc first rest line)

refused-more : (done : List Shown) (s : Shown) → all_refused (done ++ s ∷ []) ≡ all_refused done + (if is_err s.changes then 1 else 0)
refused-more [] s = omega arith
refused-more (x ∷ xs) s = let more = refused-more xs s in omega arith

rows-more : (done : List Shown) (s : Shown) → all_rows (done ++ s ∷ []) ≡ all_rows done + rows_shown s
rows-more [] s = omega arith
rows-more (x ∷ xs) s = let more = rows-more xs s in omega arith

-- ---- the lines

-- what is shown of the units among these that are wanted
abbrev pub listed_of : Wanted → List ℕ → (ℕ → ℕ) → List Facts → List Shown
listed_of w log place us = map (shown log place) (wanted_of w log us)

pub record IsListing (sheet : Sheet) (l : LogList) (later : List Shown) (had has : Option (List ℕ)) (held : List ℕ) : Type 0 where
  pub in_turn : l.sorting ≡ Place
  pub done : List Shown
  pub chosen : done ++ later ≡ l.units
  pub written : List ℕ
  pub appended : Appends had has written
  pub lines : List ℕ
  pub lines_are : AreLines sheet.form sheet.zone sheet.gtids sheet.width l.name done lines
  pub text : written ++ held ≡ sheet.before ++ (name_above sheet.form l.name ++ lines)

-- at first the line of the log's name is held
pub listing-none : (sheet : Sheet) (l : LogList) (later : List Shown) (had : Option (List ℕ)) (held : List ℕ) → l.sorting ≡ Place → later ≡ l.units
    → held ≡ sheet.before ++ name_above sheet.form l.name → IsListing sheet l later had had held
listing-none sheet l later had held in_turn same is = record {
  in_turn = in_turn;
  done = [];
  chosen = same;
  written = [];
  appended = Appends-nil had;
  lines = [];
  lines_are = refl;
  text = is ∙ ap (λ (name : List ℕ). sheet.before ++ name) (sym (append-nil (name_above sheet.form l.name)));
}

-- the line of the next one is held
pub listing-more : (sheet : Sheet) (l : LogList) (later rest : List Shown) (had has : Option (List ℕ)) (held more line : List ℕ) (s : Shown)
    → IsListing sheet l later had has held → later ≡ s ∷ rest → IsLine sheet.form sheet.zone sheet.gtids sheet.width l.name s line → more ≡ held ++ line → IsListing sheet l rest had has more
listing-more sheet l later rest had has held more line s list first is grown = record {
  in_turn = list.in_turn;
  done = list.done ++ s ∷ [];
  chosen = append_assoc list.done (s ∷ []) rest ∙ ap (λ (ss : List Shown). list.done ++ ss) (sym first) ∙ list.chosen;
  written = list.written;
  appended = list.appended;
  lines = list.lines ++ line;
  lines_are = lines-more sheet.form sheet.zone sheet.gtids sheet.width l.name list.done s list.lines line list.lines_are is;
  text = ap (λ (text : List ℕ). list.written ++ text) grown ∙ sym (append_assoc list.written held line)
      ∙ ap (λ (text : List ℕ). text ++ line) list.text ∙ append_assoc sheet.before (name_above sheet.form l.name ++ list.lines) line
      ∙ ap (λ (text : List ℕ). sheet.before ++ text) (append_assoc (name_above sheet.form l.name) list.lines line);
}

-- the same units are left to list
listing-same : (sheet : Sheet) (l : LogList) (later rest : List Shown) (had has : Option (List ℕ)) (held : List ℕ)
    → IsListing sheet l later had has held → later ≡ rest → IsListing sheet l rest had has held
listing-same sheet l later rest had has held list same = subst (λ (ss : List Shown). IsListing sheet l ss had has held) same list

-- a part of what is held is written
pub listing-written : (sheet : Sheet) (l : LogList) (later : List Shown) (had has now : Option (List ℕ)) (held rest : List ℕ)
    → IsListing sheet l later had has held → HasWritten has now held rest → IsListing sheet l later had now rest
listing-written sheet l later had has now held rest list (part, appended, split) = record {
  in_turn = list.in_turn;
  done = list.done;
  chosen = list.chosen;
  written = list.written ++ part;
  appended = Appends-trans had has now list.written part list.appended appended;
  lines = list.lines;
  lines_are = list.lines_are;
  text = append_assoc list.written part rest ∙ ap (λ (text : List ℕ). list.written ++ text) split ∙ list.text;
}

-- ---- their end

-- units that aren't sorted
arranged-in-turn : (sorting : Sorting) (choice : Choice) (units : List Shown) → sorting ≡ Place → IsArranged sorting choice units units
arranged-in-turn Place choice units is = refl
arranged-in-turn Rows choice units is = cc

-- a beginning of what is held is written, and no more
pub listing-broken : (sheet : Sheet) (l : LogList) (later : List Shown) (had has now : Option (List ℕ)) (held : List ℕ)
    → IsListing sheet l later had has held → AppendsBeginning has now held → HasBegun sheet.form sheet.zone sheet.gtids sheet.width l had now sheet.before
listing-broken sheet l later had has now held list (front, rest, split, appended) = (
  name_above sheet.form l.name ++ list.lines,
  inr (
    record l { units = list.done; sorting = Place },
    inr (l.units, later, arranged-in-turn l.sorting l.choice l.units list.in_turn, list.chosen, refl, refl),
    (list.done, refl, (list.lines, list.lines_are, refl)),
  ),
  (
    list.written ++ front,
    rest,
    sym list.text ∙ ap (λ (text : List ℕ). list.written ++ text) split ∙ sym (append_assoc list.written front rest),
    Appends-trans had has now list.written front list.appended appended,
  ),
)

-- nothing more is written
pub listing-left : (sheet : Sheet) (l : LogList) (later : List Shown) (had has : Option (List ℕ)) (held : List ℕ)
    → IsListing sheet l later had has held → HasBegun sheet.form sheet.zone sheet.gtids sheet.width l had has sheet.before
listing-left sheet l later had has held list = listing-broken sheet l later had has has held list ([], held, refl, Appends-nil has)

-- not even the name was held
pub listing-unbegun : (form : Form) (zone : TimeZone) (gtids : Bool) (width : ℕ) (l : LogList) (had : Option (List ℕ)) (before : List ℕ) → HasBegun form zone gtids width l had had before
listing-unbegun form zone gtids width l had before = ([], inl refl, ([], before ++ [], refl, Appends-nil had))

-- no unit is wanted that is left
pub listing-end : (sheet : Sheet) (l : LogList) (later : List Shown) (had has : Option (List ℕ)) (held : List ℕ) → IsListing sheet l later had has held → later ≡ []
    → HasListed sheet.form sheet.zone sheet.gtids sheet.width l had has sheet.before held
listing-end sheet l later had has held list none =
    let all_done : list.done ≡ l.units = sym (append-nil list.done) ∙ ap (λ (ss : List Shown). list.done ++ ss) (sym none) ∙ list.chosen in
    let lines_are = subst (λ (ss : List Shown). AreLines sheet.form sheet.zone sheet.gtids sheet.width l.name ss list.lines) all_done list.lines_are in
    let arranged = arranged-in-turn l.sorting l.choice l.units list.in_turn in
    (name_above sheet.form l.name ++ list.lines, (l.units, arranged, (list.lines, lines_are, refl)), (list.written, list.appended, list.text))

-- ---- the numbers

-- 1 where it is
abbrev flag_of : Bool → ℕ
flag_of b = if b then 1 else 0

-- what is counted of these units, if so many statements are passed over among them
abbrev so_far : LogList → List Shown → ℕ → LogList
so_far l done gone = record l { units = done; passed_over = gone }

units-push : (before : List LogList) (l : LogList) → sum_units (before ++ l ∷ []) ≡ sum_units before + length l.units
units-push before l = sum_by_push (λ (l : LogList). length l.units) before l

refused-push : (before : List LogList) (l : LogList) → sum_refused (before ++ l ∷ []) ≡ sum_refused before + all_refused l.units
refused-push before l = sum_by_push (λ (l : LogList). all_refused l.units) before l

rows-push : (before : List LogList) (l : LogList) → sum_rows (before ++ l ∷ []) ≡ sum_rows before + all_rows l.units
rows-push before l = sum_by_push (λ (l : LogList). all_rows l.units) before l

passed-push : (before : List LogList) (l : LogList) → sum_passed_over (before ++ l ∷ []) ≡ sum_passed_over before + l.passed_over
passed-push before l = sum_by_push (λ (l : LogList). l.passed_over) before l

damaged-push : (before : List LogList) (l : LogList) → sum_damaged (before ++ l ∷ []) ≡ sum_damaged before + l.damaged
damaged-push before l = sum_by_push (λ (l : LogList). l.damaged) before l

counts-none : (l : LogList) (old new : Totals) → HasDamaged old new l.damaged → CountsLog old new (so_far l [] 0)
counts-none l old new (units, refused, rows, passed, damaged) = λ before are. record {
  units_are = omega (arith, units, are.units_are, units-push before (so_far l [] 0));
  refused_are = omega (arith, refused, are.refused_are, refused-push before (so_far l [] 0));
  rows_are = omega (arith, rows, are.rows_are, rows-push before (so_far l [] 0));
  passed_over_are = omega (arith, passed, are.passed_over_are, passed-push before (so_far l [] 0));
  damaged_are = omega (arith, damaged, are.damaged_are, damaged-push before (so_far l [] 0));
}

counts-listed : (log : List ℕ) (place : ℕ → ℕ) (stop : ℕ) (l : LogList) (old mid new : Totals) (done : List Shown) (gone : ℕ) (s : Shown) (changes : Result (List TableCount) Fault)
    → s.changes ≡ changes_shown log place stop changes → CountsLog old mid (so_far l done gone) → HasAdded mid new changes → CountsLog old new (so_far l (done ++ s ∷ []) gone)
counts-listed log place stop l old mid new done gone s (Ok counts) is counted (more, refused, rows, passed, damaged) = λ before are.
    let had = counted before are in
    let was : LogList = so_far l done gone in
    let now : LogList = so_far l (done ++ s ∷ []) gone in
    let flag : ◌≡◌ {A = ℕ} (if is_err s.changes then 1 else 0) 0 = ap (λ (r : Result (List TableCount) Refusal). flag_of (is_err r)) is in
    let own : rows_shown s ≡ rows_of counts = ap (λ (r : Result (List TableCount) Refusal). option_map_or rows_of (result_ok r) 0) is in
    record {
      units_are = omega (arith, more, had.units_are, units-push before was, units-push before now, length-append done (s ∷ []));
      refused_are = omega (arith, refused, had.refused_are, refused-push before was, refused-push before now, refused-more done s, flag);
      rows_are = omega (arith, rows, had.rows_are, rows-push before was, rows-push before now, rows-more done s, own);
      passed_over_are = omega (arith, passed, had.passed_over_are, passed-push before was, passed-push before now);
      damaged_are = omega (arith, damaged, had.damaged_are, damaged-push before was, damaged-push before now);
    }
counts-listed log place stop l old mid new done gone s (Err why) is counted (more, refused, rows, passed, damaged) = λ before are.
    let had = counted before are in
    let was : LogList = so_far l done gone in
    let now : LogList = so_far l (done ++ s ∷ []) gone in
    let flag : ◌≡◌ {A = ℕ} (if is_err s.changes then 1 else 0) 1 = ap (λ (r : Result (List TableCount) Refusal). flag_of (is_err r)) is in
    let own : rows_shown s ≡ 0 = ap (λ (r : Result (List TableCount) Refusal). option_map_or rows_of (result_ok r) 0) is in
    record {
      units_are = omega (arith, more, had.units_are, units-push before was, units-push before now, length-append done (s ∷ []));
      refused_are = omega (arith, refused, had.refused_are, refused-push before was, refused-push before now, refused-more done s, flag);
      rows_are = omega (arith, rows, had.rows_are, rows-push before was, rows-push before now, rows-more done s, own);
      passed_over_are = omega (arith, passed, had.passed_over_are, passed-push before was, passed-push before now);
      damaged_are = omega (arith, damaged, had.damaged_are, damaged-push before was, damaged-push before now);
    }

counts-passed : (l : LogList) (old mid new : Totals) (done : List Shown) (gone : ℕ) (changes : Result (List TableCount) Fault)
    → CountsLog old mid (so_far l done gone) → HasCounted PassedOver mid new changes → CountsLog old new (so_far l done (gone + 1))
counts-passed l old mid new done gone changes counted (units, refused, rows, passed, damaged) = λ before are.
    let had = counted before are in
    let was : LogList = so_far l done gone in
    let now : LogList = so_far l done (gone + 1) in
    record {
      units_are = omega (arith, units, had.units_are, units-push before was, units-push before now);
      refused_are = omega (arith, refused, had.refused_are, refused-push before was, refused-push before now);
      rows_are = omega (arith, rows, had.rows_are, rows-push before was, rows-push before now);
      passed_over_are = omega (arith, passed, had.passed_over_are, passed-push before was, passed-push before now);
      damaged_are = omega (arith, damaged, had.damaged_are, damaged-push before was, damaged-push before now);
    }

-- these units are left to list, and so many to pass over
pub record IsCounting (old new : Totals) (l : LogList) (later : List Shown) (left : ℕ) : Type 0 where
  pub done : List Shown
  pub chosen : done ++ later ≡ l.units
  pub gone : ℕ
  pub over : gone + left ≡ l.passed_over
  pub counts : CountsLog old new (so_far l done gone)

pub counting-none : (old new : Totals) (l : LogList) (later : List Shown) (left : ℕ) → HasDamaged old new l.damaged → later ≡ l.units → left ≡ l.passed_over
    → IsCounting old new l later left
counting-none old new l later left damaged units passed = record { done = []; chosen = units; gone = 0; over = omega (arith, passed); counts = counts-none l old new damaged }

pub counting-end : (old new : Totals) (l : LogList) (later : List Shown) (left : ℕ) → IsCounting old new l later left → later ≡ [] → left ≡ 0 → CountsLog old new l
counting-end old new l later left count none zero =
    let done : count.done ≡ l.units = sym (append-nil count.done) ∙ ap (λ (ss : List Shown). count.done ++ ss) (sym none) ∙ count.chosen in
    let over : count.gone ≡ l.passed_over = omega (arith, zero, count.over) in
    subst (λ (n : ℕ). CountsLog old new (so_far l l.units n)) over (subst (λ (ss : List Shown). CountsLog old new (so_far l ss count.gone)) done count.counts)

-- the last lines, as text
text-totals-are : (totals : Totals) (ls : List LogList) → AreTotals totals ls → totals_text totals ≡ totals_lines ls
unfolding totals_lines
text-totals-are totals ls are = rw (are.units_are, are.refused_are, are.rows_are, are.passed_over_are, are.damaged_are) refl

-- and in each form
pub totals-are : (form : Form) (totals : Totals) (ls : List LogList) → AreTotals totals ls → totals_put form totals ≡ totals_of form ls
totals-are Text totals ls are = text-totals-are totals ls are
totals-are Json totals ls are = rw (are.units_are, are.refused_are, are.rows_are, are.passed_over_are, are.damaged_are) refl

-- ---- which units are listed

-- the first one that is left is wanted
abbrev is_one_of : Wanted → List ℕ → Facts → Bool
is_one_of w log u = is_wanted_unit w log u (changes_of log u)

wanted-first : (w : Wanted) (log : List ℕ) (place : ℕ → ℕ) (u : Facts) (left rest : List Facts) (s : Shown) → left ≡ u ∷ rest → s ≡ shown log place u
    → is_before u.start w.stop ≡ true → is_wanted_unit w log u (changes_of log u) ≡ true → listed_of w log place left ≡ s ∷ listed_of w log place rest
wanted-first w log place u left rest s first is before wanted =
    ap (listed_of w log place) first
    ∙ ap (λ (us : List Facts). map (shown log place) (filter (is_one_of w log) us)) (cond-true _ _ _ before)
    ∙ ap (λ (us : List Facts). map (shown log place) us) (cond-true _ _ _ wanted)
    ∙ ap (λ (x : Shown). x ∷ listed_of w log place rest) (sym is)

unwanted-first : (w : Wanted) (log : List ℕ) (place : ℕ → ℕ) (u : Facts) (left rest : List Facts) → left ≡ u ∷ rest
    → is_before u.start w.stop ≡ true → is_wanted_unit w log u (changes_of log u) ≡ false → listed_of w log place left ≡ listed_of w log place rest
unwanted-first w log place u left rest first before wanted =
    ap (listed_of w log place) first
    ∙ ap (λ (us : List Facts). map (shown log place) (filter (is_one_of w log) us)) (cond-true _ _ _ before)
    ∙ ap (λ (us : List Facts). map (shown log place) us) (cond-false _ _ _ wanted)

-- it is passed over, or isn't
abbrev is_passed_one : Wanted → List ℕ → Facts → Bool
is_passed_one w log u = is_passed (concern_of w log u (changes_of log u))

passed-first : (w : Wanted) (log : List ℕ) (u : Facts) (left rest : List Facts) (b : Bool) → left ≡ u ∷ rest → is_before u.start w.stop ≡ true → is_passed_one w log u ≡ b
    → passed_over_of w log left ≡ flag_of b + passed_over_of w log rest
passed-first w log u left rest b first before is =
    ap (passed_over_of w log) first
    ∙ ap (λ (us : List Facts). count_by (is_passed_one w log) us) (cond-true _ _ _ before)
    ∙ sum_by-cons (λ (u : Facts). if is_passed_one w log u then 1 else 0) u (in_front w.stop rest)
    ∙ ap (λ (b : Bool). flag_of b + passed_over_of w log rest) is

-- or it isn't in front of the stop, and no other is wanted
pub stopped-first : (w : Wanted) (log : List ℕ) (place : ℕ → ℕ) (u : Facts) (left rest : List Facts) → left ≡ u ∷ rest → is_before u.start w.stop ≡ false
    → listed_of w log place left ≡ []
stopped-first w log place u left rest first before =
    ap (listed_of w log place) first ∙ ap (λ (us : List Facts). map (shown log place) (filter (is_one_of w log) us)) (cond-false _ _ _ before)

pub stopped-passed : (w : Wanted) (log : List ℕ) (u : Facts) (left rest : List Facts) → left ≡ u ∷ rest → is_before u.start w.stop ≡ false → passed_over_of w log left ≡ 0
stopped-passed w log u left rest first before =
    ap (passed_over_of w log) first ∙ ap (λ (us : List Facts). count_by (is_passed_one w log) us) (cond-false _ _ _ before)

-- ---- units of the program

memory-refused : (A : Type 0) {R : Type 0} (why : Fault) → why ≡ OutOfMemory → has_no_memory {X = Index A} (Err why) ≡ false → R
memory-refused A why is memory = let refused : has_no_memory {X = Index A} (Err why) ≡ true = ap (λ (f : Fault). has_no_memory {X = Index A} (Err f)) is in cc

groups-are : {A : Type 0} (log : List ℕ) (start stop : ℕ) (told : Result (Index A) Fault) → AreGroups log (between start stop) told → has_no_memory told ≡ false
    → changes_told told ≡ changes_in log (between start stop)
unfolding changes_in
groups-are {A = A} log start stop (Ok index) (accepted, of, sel) memory =
    ap₂ (λ (b : List ℕ) (s : Selection). Ok (counts_of (groups b s))) of sel ∙ sym (ap (rows_or (counts_of (groups log (between start stop)))) accepted)
groups-are {A = A} log start stop (Err why) (inl is) memory = memory-refused A why is memory
groups-are {A = A} log start stop (Err why) (inr is) memory = sym (ap (rows_or (counts_of (groups log (between start stop)))) is)

-- their changes are those of the log
pub groups-told : {A : Type 0} (log : List ℕ) (unit : Unit A) → IsJudged log unit → has_no_memory unit.groups ≡ false → changes_told unit.groups ≡ changes_of log (facts_told unit.facts)
groups-told log unit judged memory = groups-are log unit.facts.start unit.facts.stop unit.groups judged memory

-- what is shown of one is what is shown by the log
told-is-shown : {A : Type 0} (log : List ℕ) (place : ℕ → ℕ) (unit : Unit A) → changes_told unit.groups ≡ changes_of log (facts_told unit.facts)
    → shown_told log place unit ≡ shown log place (facts_told unit.facts)
unfolding shown
told-is-shown log place unit same = ap (shown_with log place (facts_told unit.facts)) same

-- ---- one step

-- whether a unit is wanted
is-concern : {A : Type 0} (w : Wanted) (log : List ℕ) (unit : Unit A) (concern : Concern) → changes_told unit.groups ≡ changes_of log (facts_told unit.facts)
    → concern ≡ concern_of w log (facts_told unit.facts) (changes_told unit.groups) → concern_of w log (facts_told unit.facts) (changes_of log (facts_told unit.facts)) ≡ concern
is-concern w log unit concern same is = ap (concern_of w log (facts_told unit.facts)) (sym same) ∙ sym is

-- the next unit is wanted, or isn't
pub wanted-next : {A : Type 0} (w : Wanted) (log : List ℕ) (place : ℕ → ℕ) (left rest : List Facts) (unit : Unit A) (concern : Concern)
    → left ≡ facts_told unit.facts ∷ rest → changes_told unit.groups ≡ changes_of log (facts_told unit.facts) → is_before unit.facts.start w.stop ≡ true
    → concern ≡ concern_of w log (facts_told unit.facts) (changes_told unit.groups) → is_wanted concern ≡ true → listed_of w log place left ≡ shown_told log place unit ∷ listed_of w log place rest
wanted-next w log place left rest unit concern first same earlier is wanted =
    wanted-first w log place (facts_told unit.facts) left rest (shown_told log place unit) first (told-is-shown log place unit same) earlier (ap is_wanted (is-concern w log unit concern same is) ∙ wanted)

pub unwanted-next : {A : Type 0} (w : Wanted) (log : List ℕ) (place : ℕ → ℕ) (left rest : List Facts) (unit : Unit A) (concern : Concern)
    → left ≡ facts_told unit.facts ∷ rest → changes_told unit.groups ≡ changes_of log (facts_told unit.facts) → is_before unit.facts.start w.stop ≡ true
    → concern ≡ concern_of w log (facts_told unit.facts) (changes_told unit.groups) → is_wanted concern ≡ false → listed_of w log place left ≡ listed_of w log place rest
unwanted-next w log place left rest unit concern first same earlier is unwanted =
    unwanted-first w log place (facts_told unit.facts) left rest first earlier (ap is_wanted (is-concern w log unit concern same is) ∙ unwanted)

-- or it isn't in the range
outside-is : (w : Wanted) (log : List ℕ) (u : Facts) → is_in_range w u ≡ false → concern_of w log u (changes_of log u) ≡ Other
outside-is w log u outside = cond-false (is_in_range w u) _ Other outside

pub outside-next : (w : Wanted) (log : List ℕ) (place : ℕ → ℕ) (u : Facts) (left rest : List Facts) → left ≡ u ∷ rest
    → is_before u.start w.stop ≡ true → is_in_range w u ≡ false → listed_of w log place left ≡ listed_of w log place rest
outside-next w log place u left rest first earlier outside = unwanted-first w log place u left rest first earlier (ap is_wanted (outside-is w log u outside))

-- the line of a wanted unit was appended
pub listing-wanted : {A B : Type 0} (before : List ℕ) (form : Form) (gtids : Bool) (column : TimeColumn B) (w : Wanted) (log : List ℕ) (place : ℕ → ℕ) (l : LogList) (left rest : List Facts)
    → (had has : Option (List ℕ)) (held more : List ℕ) (unit : Unit A) (concern : Concern)
    → IsListing (record { form = form; zone = plain_zone column.zone; gtids = gtids; width = length column.heading.items; before = before }) l (listed_of w log place left) had has held
    → left ≡ facts_told unit.facts ∷ rest → changes_told unit.groups ≡ changes_of log (facts_told unit.facts) → is_before unit.facts.start w.stop ≡ true
    → concern ≡ concern_of w log (facts_told unit.facts) (changes_told unit.groups) → is_wanted concern ≡ true → PutsLineIn form column gtids l.name (shown_told log place unit) held more
    → IsListing (record { form = form; zone = plain_zone column.zone; gtids = gtids; width = length column.heading.items; before = before }) l (listed_of w log place rest) had has more
listing-wanted before form gtids column w log place l left rest had has held more unit concern list first same earlier is wanted (line, shows, grown) =
    let s : Shown = shown_told log place unit in
    let chosen = wanted-next w log place left rest unit concern first same earlier is wanted in
    listing-more (record { form = form; zone = plain_zone column.zone; gtids = gtids; width = length column.heading.items; before = before }) l (listed_of w log place left) (listed_of w log place rest) had has held more line s
    list chosen shows grown

-- a unit isn't wanted
pub listing-unwanted : {A : Type 0} (sheet : Sheet) (w : Wanted) (log : List ℕ) (place : ℕ → ℕ) (l : LogList) (left rest : List Facts)
    → (had has : Option (List ℕ)) (held : List ℕ) (unit : Unit A) (concern : Concern) → IsListing sheet l (listed_of w log place left) had has held
    → left ≡ facts_told unit.facts ∷ rest → changes_told unit.groups ≡ changes_of log (facts_told unit.facts) → is_before unit.facts.start w.stop ≡ true
    → concern ≡ concern_of w log (facts_told unit.facts) (changes_told unit.groups) → is_wanted concern ≡ false → IsListing sheet l (listed_of w log place rest) had has held
listing-unwanted sheet w log place l left rest had has held unit concern list first same earlier is unwanted =
    listing-same sheet l (listed_of w log place left) (listed_of w log place rest) had has held list
    (unwanted-next w log place left rest unit concern first same earlier is unwanted)

-- or it isn't in the range
pub listing-outside : (sheet : Sheet) (w : Wanted) (log : List ℕ) (place : ℕ → ℕ) (l : LogList) (left rest : List Facts) (had has : Option (List ℕ)) (held : List ℕ) (u : Facts)
    → IsListing sheet l (listed_of w log place left) had has held → left ≡ u ∷ rest → is_before u.start w.stop ≡ true → is_in_range w u ≡ false
    → IsListing sheet l (listed_of w log place rest) had has held
listing-outside sheet w log place l left rest had has held u list first earlier outside =
    listing-same sheet l (listed_of w log place left) (listed_of w log place rest) had has held list (outside-next w log place u left rest first earlier outside)

-- a unit is counted, or isn't in the range
pub counting-outside : (w : Wanted) (log : List ℕ) (place : ℕ → ℕ) (l : LogList) (left rest : List Facts) (old new : Totals) (u : Facts)
    → IsCounting old new l (listed_of w log place left) (passed_over_of w log left) → left ≡ u ∷ rest → is_before u.start w.stop ≡ true → is_in_range w u ≡ false
    → IsCounting old new l (listed_of w log place rest) (passed_over_of w log rest)
counting-outside w log place l left rest old new u count first earlier outside =
    let over = passed-first w log u left rest false first earlier (ap is_passed (outside-is w log u outside)) in
    record {
      done = count.done;
      chosen = ap (λ (ss : List Shown). count.done ++ ss) (sym (outside-next w log place u left rest first earlier outside)) ∙ count.chosen;
      gone = count.gone;
      over = omega (arith, over, count.over);
      counts = count.counts;
    }

pub counting-more : {A : Type 0} (concern : Concern) (w : Wanted) (log : List ℕ) (place : ℕ → ℕ) (l : LogList) (left rest : List Facts) (old mid new : Totals) (unit : Unit A)
    → IsCounting old mid l (listed_of w log place left) (passed_over_of w log left) → left ≡ facts_told unit.facts ∷ rest → changes_told unit.groups ≡ changes_of log (facts_told unit.facts)
    → is_before unit.facts.start w.stop ≡ true → concern ≡ concern_of w log (facts_told unit.facts) (changes_told unit.groups) → HasCounted concern mid new (changes_told unit.groups)
    → IsCounting old new l (listed_of w log place rest) (passed_over_of w log rest)
counting-more IsWanted w log place l left rest old mid new unit count first same earlier is counted =
    let u : Facts = facts_told unit.facts in
    let s : Shown = shown_told log place unit in
    let is_so = is-concern w log unit IsWanted same is in
    let chosen = wanted-first w log place u left rest s first (told-is-shown log place unit same) earlier (ap is_wanted is_so) in
    let over = passed-first w log u left rest false first earlier (ap is_passed is_so) in
    record {
      done = count.done ++ s ∷ [];
      chosen = append_assoc count.done (s ∷ []) (listed_of w log place rest) ∙ ap (λ (ss : List Shown). count.done ++ ss) (sym chosen) ∙ count.chosen;
      gone = count.gone;
      over = omega (arith, over, count.over);
      counts = counts-listed log place unit.facts.stop l old mid new count.done count.gone s (changes_told unit.groups) refl count.counts counted;
    }
counting-more PassedOver w log place l left rest old mid new unit count first same earlier is counted =
    let u : Facts = facts_told unit.facts in
    let is_so = is-concern w log unit PassedOver same is in
    let chosen = unwanted-first w log place u left rest first earlier (ap is_wanted is_so) in
    let over = passed-first w log u left rest true first earlier (ap is_passed is_so) in
    record {
      done = count.done;
      chosen = ap (λ (ss : List Shown). count.done ++ ss) (sym chosen) ∙ count.chosen;
      gone = count.gone + 1;
      over = omega (arith, over, count.over);
      counts = counts-passed l old mid new count.done count.gone (changes_told unit.groups) count.counts counted;
    }
counting-more Other w log place l left rest old mid new unit count first same earlier is counted =
    let u : Facts = facts_told unit.facts in
    let is_so = is-concern w log unit Other same is in
    let chosen = unwanted-first w log place u left rest first earlier (ap is_wanted is_so) in
    let over = passed-first w log u left rest false first earlier (ap is_passed is_so) in
    record {
      done = count.done;
      chosen = ap (λ (ss : List Shown). count.done ++ ss) (sym chosen) ∙ count.chosen;
      gone = count.gone;
      over = omega (arith, over, count.over);
      counts = subst (λ (t : Totals). CountsLog old t (so_far l count.done count.gone)) (sym counted) count.counts;
    }
