-- What is put into a record, and what is still to put.
use Rattle.std.proofs.Common.{◌≡◌, ℕ, ◌+◌, ◌/◌, ◌%◌, Bool, true, false, cond, List, [], ◌∷◌, ◌++◌, map, Option, Some, None, refl, sym, ap, ap₂, ◌∙◌, arith, append-nil, append_assoc, length, length-append}
use Rattle.std.specs.Prelude.{if◌then◌else◌, nat_eq, is_none}
use Rattle.std.specs.List.{cons_option, filter_map, flat_map, list_any}
use Rattle.std.proofs.lemmas.Bool.{cond-true, cond-false, le-ltb}
use Rattle.std.proofs.lemmas.List.{length-map}
use Rattle.std.proofs.lemmas.List.Concat.{flat_map-append}
use Rattle.blog_row.specs.Column.{Layout}
use Rattle.blog_row.specs.Image.{row_of}
use Rattle.blog_row.specs.TableMap.{Table}
use Rattle.blog_later.specs.Later.{changes_in, is_accepted, unit_changes}
use Rattle.blog_later.specs.Prints.{print_of, prints_before}
use Rattle.blog_later.specs.code.EventChanges.{event_changes, events_changes, image_changes}
use Rattle.blog_trans.specs.Acceptance.{fault}
use Rattle.blog_trans.specs.Changes.{Change, changes}
use Rattle.blog_trans.specs.Selection.{Selection}
use Rattle.blog_trans.specs.code.InTurn.{GroupEvent}
use Rattle.blog_undo.specs.Mixed.{TableRow, takes}
use Rattle.blog_units.specs.Units.{Facts, between, range_of_unit}
use Rattle.blog_later.specs.Among.{Step, Selected, Other}
use Rattle.blog_untouched.specs.Recorded.{row_by, taken_row}
use Rattle.blog_untouched.specs.Steps.{rows_in, rows_of, taken_in, taken_of, unit_step}
use Rattle.blog_untouched.specs.declared.rows.SelectedRow.{SelectedRow}
use Rattle.blog_untouched.specs.declared.rows.TakenRow.{TakenRow}

pub taken-append : (before : ℕ) (prints : List ℕ) (cs ds : List Change) → taken_of before prints (cs ++ ds) ≡ taken_of before prints cs ++ taken_of before prints ds
taken-append before prints cs ds = flat_map-append _ cs ds

-- ---- one row

-- it takes none
pub none-taken : (before : ℕ) (prints : List ℕ) (t : Table) (layout : Layout) (after : Option (List ℕ)) → taken_of before prints (image_changes t layout None after) ≡ []
none-taken before prints t layout None = refl
none-taken before prints t layout (Some image) = refl

one-taken : (before : ℕ) (prints : List ℕ) (t : Table) (layout : Layout) (image : List ℕ) (after : Option (List ℕ))
    → taken_of before prints (image_changes t layout (Some image) after) ≡ taken_row print_of before prints (Some (record { table = t; row = row_of layout image })) ++ []
one-taken before prints t layout image None = refl
one-taken before prints t layout image (Some after) = refl

-- it takes one that was left
pub left-taken : (before : ℕ) (prints : List ℕ) (print : ℕ) (t : Table) (layout : Layout) (image : List ℕ) (after : Option (List ℕ)) → print ≡ print_of (record { table = t; row = row_of layout image })
    → list_any (nat_eq print) prints ≡ true → taken_of before prints (image_changes t layout (Some image) after) ≡ record { before = before; print = print } ∷ []
left-taken before prints print t layout image after is there =
    one-taken before prints t layout image after
    ∙ ap (λ (p : ℕ). (if list_any (nat_eq p) prints then record { before = before; print = p } ∷ [] else []) ++ []) (sym is)
    ∙ ap (λ (b : Bool). (if b then record { before = before; print = print } ∷ [] else []) ++ []) there

-- or another
pub other-taken : (before : ℕ) (prints : List ℕ) (print : ℕ) (t : Table) (layout : Layout) (image : List ℕ) (after : Option (List ℕ)) → print ≡ print_of (record { table = t; row = row_of layout image })
    → list_any (nat_eq print) prints ≡ false → taken_of before prints (image_changes t layout (Some image) after) ≡ []
other-taken before prints print t layout image after is gone =
    one-taken before prints t layout image after
    ∙ ap (λ (p : ℕ). (if list_any (nat_eq p) prints then record { before = before; print = p } ∷ [] else []) ++ []) (sym is)
    ∙ ap (λ (b : Bool). (if b then record { before = before; print = print } ∷ [] else []) ++ []) gone

-- ---- what is put, and what is still to put

pub row-more : (before : ℕ) (prints : List ℕ) (first left rest : List Change) (had has all : List TakenRow) → left ≡ first ++ rest → has ≡ had ++ taken_of before prints first
    → had ++ taken_of before prints left ≡ all → has ++ taken_of before prints rest ≡ all
row-more before prints first left rest had has all parts put is =
    ap (λ (ts : List TakenRow). ts ++ taken_of before prints rest) put
    ∙ append_assoc had (taken_of before prints first) (taken_of before prints rest)
    ∙ ap (λ (ts : List TakenRow). had ++ ts) (sym (taken-append before prints first rest))
    ∙ ap (λ (cs : List Change). had ++ taken_of before prints cs) (sym parts) ∙ is

pub event-more : (before : ℕ) (prints : List ℕ) (e : GroupEvent) (left rest : List GroupEvent) (had has all : List TakenRow) → left ≡ e ∷ rest → has ≡ had ++ taken_of before prints (event_changes e)
    → had ++ taken_of before prints (events_changes left) ≡ all → has ++ taken_of before prints (events_changes rest) ≡ all
event-more before prints e left rest had has all first put is = row-more before prints (event_changes e) (events_changes left) (events_changes rest) had has all (ap events_changes first) put is

-- ---- units

pub unit-accepted : (bytes : List ℕ) (u : Facts) → fault bytes (between u.start u.stop) ≡ None → unit_changes bytes u ≡ changes bytes (between u.start u.stop)
unit-accepted bytes u accepted = cond-true (is_accepted bytes u) (changes bytes (between u.start u.stop)) [] (ap is_none accepted)

pub unit-refused : (bytes : List ℕ) (u : Facts) → is_accepted bytes u ≡ false → unit_changes bytes u ≡ []
unit-refused bytes u refused = cond-false (is_accepted bytes u) (changes bytes (between u.start u.stop)) [] refused

pub unit-more : (before : ℕ) (prints : List ℕ) (bytes : List ℕ) (u : Facts) (left rest : List Facts) (had has all : List TakenRow) → left ≡ u ∷ rest → has ≡ had ++ taken_of before prints (unit_changes bytes u)
    → had ++ taken_of before prints (changes_in bytes left) ≡ all → has ++ taken_of before prints (changes_in bytes rest) ≡ all
unit-more before prints bytes u left rest had has all first put is =
    row-more before prints (unit_changes bytes u) (changes_in bytes left) (changes_in bytes rest) had has all (ap (changes_in bytes) first) put is

-- ---- units in steps

step-chosen : (p : Facts → Bool) (sel : Selection) (bytes : List ℕ) (u : Facts) (left rest : List Facts) → left ≡ u ∷ rest → p u ≡ true
    → map (unit_step p sel bytes) left ≡ Selected (changes bytes (range_of_unit sel u)) ∷ map (unit_step p sel bytes) rest
step-chosen p sel bytes u left rest first is =
    ap (map (unit_step p sel bytes)) first
    ∙ ap (λ (s : Step). s ∷ map (unit_step p sel bytes) rest) (cond-true (p u) (Selected (changes bytes (range_of_unit sel u))) (Other (unit_changes bytes u)) is)

step-other : (p : Facts → Bool) (sel : Selection) (bytes : List ℕ) (u : Facts) (left rest : List Facts) → left ≡ u ∷ rest → p u ≡ false
    → map (unit_step p sel bytes) left ≡ Other (unit_changes bytes u) ∷ map (unit_step p sel bytes) rest
step-other p sel bytes u left rest first is =
    ap (map (unit_step p sel bytes)) first
    ∙ ap (λ (s : Step). s ∷ map (unit_step p sel bytes) rest) (cond-false (p u) (Selected (changes bytes (range_of_unit sel u))) (Other (unit_changes bytes u)) is)

-- a chosen unit is put
pub rows-chosen : (cs : List Change) (left rest : List Step) (had has all : List SelectedRow) → left ≡ Selected cs ∷ rest → has ≡ had ++ rows_of cs → had ++ rows_in left ≡ all
    → has ++ rows_in rest ≡ all
rows-chosen cs left rest had has all first put is =
    ap (λ (rs : List SelectedRow). rs ++ rows_in rest) put ∙ append_assoc had (rows_of cs) (rows_in rest)
    ∙ ap (λ (ss : List Step). had ++ rows_in ss) (sym first) ∙ is

pub taken-chosen : (prints : ℕ → List ℕ) (k more : ℕ) (cs : List Change) (left rest : List Step) (had has : List SelectedRow) (taken all : List TakenRow) → left ≡ Selected cs ∷ rest → has ≡ had ++ rows_of cs
    → more ≡ k + 1 → taken ++ taken_in prints k (length had) left ≡ all → taken ++ taken_in prints more (length has) rest ≡ all
taken-chosen prints k more cs left rest had has taken all first put next is =
    let long : length has ≡ length had + length cs = ap length put ∙ length-append had (rows_of cs) ∙ ap (λ (n : ℕ). length had + n) (length-map cs (row_by print_of)) in
    ap₂ (λ (m n : ℕ). taken ++ taken_in prints m n rest) next long
    ∙ ap (λ (ss : List Step). taken ++ taken_in prints k (length had) ss) (sym first) ∙ is

-- another is
pub rows-other : (cs : List Change) (left rest : List Step) (had all : List SelectedRow) → left ≡ Other cs ∷ rest → had ++ rows_in left ≡ all → had ++ rows_in rest ≡ all
rows-other cs left rest had all first is = ap (λ (ss : List Step). had ++ rows_in ss) (sym first) ∙ is

pub taken-other : (prints : ℕ → List ℕ) (k n : ℕ) (cs : List Change) (left rest : List Step) (had has all : List TakenRow) → left ≡ Other cs ∷ rest → has ≡ had ++ taken_of n (prints k) cs
    → had ++ taken_in prints k n left ≡ all → has ++ taken_in prints k n rest ≡ all
taken-other prints k n cs left rest had has all first put is =
    ap (λ (ts : List TakenRow). ts ++ taken_in prints k n rest) put ∙ append_assoc had (taken_of n (prints k) cs) (taken_in prints k n rest)
    ∙ ap (λ (ss : List Step). had ++ taken_in prints k n ss) (sym first) ∙ is

-- before the first chosen one nothing was left
pub none-before : (es : List ℕ) → prints_before 0 es ≡ []
none-before [] = refl
none-before (e ∷ es) =
    ap (λ b. cons_option (if b then Some (e / 4294967296) else None) (prints_before 0 es)) (le-ltb (e % 4294967296) 0 (omega arith)) ∙ none-before es

pub none-of : (n : ℕ) (cs : List Change) → taken_of n [] cs ≡ []
none-of n [] = refl
none-of n (c ∷ cs) = by_case (takes c) (none-of n cs)
  where
    by_case : (o : Option TableRow) → taken_of n [] cs ≡ [] → taken_row print_of n [] o ++ taken_of n [] cs ≡ []
    by_case None none = none
    by_case (Some r) none = none

pub taken-before : (prints : ℕ → List ℕ) (k n : ℕ) (cs : List Change) (left rest : List Step) (had all : List TakenRow) → left ≡ Other cs ∷ rest → prints k ≡ []
    → had ++ taken_in prints k n left ≡ all → had ++ taken_in prints k n rest ≡ all
taken-before prints k n cs left rest had all first none is =
    taken-other prints k n cs left rest had had all first (sym (append-nil had) ∙ ap (λ (ts : List TakenRow). had ++ ts) (sym (ap (λ (ps : List ℕ). taken_of n ps cs) none ∙ none-of n cs))) is

-- ---- of units

pub unit-chosen : (p : Facts → Bool) (sel : Selection) (bytes : List ℕ) (prints : ℕ → List ℕ) (k more : ℕ) (u : Facts) (left rest : List Facts) (had has rows : List SelectedRow) (taken all : List TakenRow)
    → left ≡ u ∷ rest → p u ≡ true → more ≡ k + 1 → has ≡ had ++ rows_of (changes bytes (range_of_unit sel u))
    → (had ++ rows_in (map (unit_step p sel bytes) left) ≡ rows) × (taken ++ taken_in prints k (length had) (map (unit_step p sel bytes) left) ≡ all)
    → (has ++ rows_in (map (unit_step p sel bytes) rest) ≡ rows) × (taken ++ taken_in prints more (length has) (map (unit_step p sel bytes) rest) ≡ all)
unit-chosen p sel bytes prints k more u left rest had has rows taken all first is next put (were, took) =
    let cs = changes bytes (range_of_unit sel u) in
    let ss = step-chosen p sel bytes u left rest first is in (
      rows-chosen cs _ _ had has rows ss put were,
      taken-chosen prints k more cs _ _ had has taken all ss put next took,
    )

pub unit-other : (p : Facts → Bool) (sel : Selection) (bytes : List ℕ) (prints : ℕ → List ℕ) (k n : ℕ) (u : Facts) (left rest : List Facts) (had rows : List SelectedRow) (taken took all : List TakenRow)
    → left ≡ u ∷ rest → p u ≡ false → took ≡ taken ++ taken_of n (prints k) (unit_changes bytes u)
    → (had ++ rows_in (map (unit_step p sel bytes) left) ≡ rows) × (taken ++ taken_in prints k n (map (unit_step p sel bytes) left) ≡ all)
    → (had ++ rows_in (map (unit_step p sel bytes) rest) ≡ rows) × (took ++ taken_in prints k n (map (unit_step p sel bytes) rest) ≡ all)
unit-other p sel bytes prints k n u left rest had rows taken took all first is put (were, whole) =
    let ss = step-other p sel bytes u left rest first is in (
      rows-other (unit_changes bytes u) _ _ had rows ss were,
      taken-other prints k n (unit_changes bytes u) _ _ taken took all ss put whole,
    )

pub unit-before : (p : Facts → Bool) (sel : Selection) (bytes : List ℕ) (prints : ℕ → List ℕ) (k n : ℕ) (u : Facts) (left rest : List Facts) (had rows : List SelectedRow) (taken all : List TakenRow)
    → left ≡ u ∷ rest → p u ≡ false → prints k ≡ []
    → (had ++ rows_in (map (unit_step p sel bytes) left) ≡ rows) × (taken ++ taken_in prints k n (map (unit_step p sel bytes) left) ≡ all)
    → (had ++ rows_in (map (unit_step p sel bytes) rest) ≡ rows) × (taken ++ taken_in prints k n (map (unit_step p sel bytes) rest) ≡ all)
unit-before p sel bytes prints k n u left rest had rows taken all first is none (were, whole) =
    let ss = step-other p sel bytes u left rest first is in (
      rows-other (unit_changes bytes u) _ _ had rows ss were,
      taken-before prints k n (unit_changes bytes u) _ _ taken all ss none whole,
    )
