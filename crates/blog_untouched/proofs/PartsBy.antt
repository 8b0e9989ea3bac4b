-- The part by fingerprints.
use Rattle.std.proofs.Common.{◌≡◌, ℕ, zero, suc, Bool, true, false, not, ◌&&◌, ◌||◌, List, [], ◌∷◌, Option, Some, None, refl, sym, ap, ap₂, ◌∙◌, arith}
use Rattle.std.specs.Prelude.{nat_eq, option_map, slice_get}
use Rattle.std.specs.List.{cons_option, list_all}
use Rattle.std.proofs.lemmas.Bool.{false≢true, and_cases, and_from, and_parts, cond-false, cond-true, eq-eqb, eqb-true, not-false, or_parts, or_right}
use Rattle.std.proofs.lemmas.Option.{none-some, same_Some}
use Rattle.blog_trans.specs.Changes.{Change}
use Rattle.blog_flash.specs.States.{apply_all}
use Rattle.blog_undo.specs.ByRows.{has_print_among, passes_by}
use Rattle.blog_undo.specs.Mixed.{Marked, TableRow, all_changes, is_left_alone, is_same_row, is_untouched, leaves, takes, touches}
use Rattle.blog_undo.specs.Part.{SelectsWithin, untouched_part}
use Rattle.blog_undo.proofs.Rows.{is_row-Decides}
use Rattle.blog_undo.proofs.TakingBack.{takes-back}
use Rattle.blog_untouched.specs.ByPrints.{has_same_print, is_left_alone_by, part_by, touches_by_print}
use Rattle.blog_untouched.specs.Laws.{IsUndoable, LeavesOutTouchedBy, TellsApart}
use mathlib.Core.Logic.{⊎_elim}

-- ---- equal rows have equal fingerprints

same-row : (r s : TableRow) → is_same_row (Some r) (Some s) ≡ true → r ≡ s
same-row r s e = let (t, q) = (is_row-Decides r.table r.row s.table s.row).0 e in (λ i. record { table = t i; row = q i })

row-itself : (r s : TableRow) → r ≡ s → is_same_row (Some r) (Some s) ≡ true
row-itself r s e = (is_row-Decides r.table r.row s.table s.row).1 (ap (λ x. x.table) e, ap (λ x. x.row) e)

same-print : (f : TableRow → ℕ) (o l : Option TableRow) → is_same_row o l ≡ true → has_same_print f o l ≡ true
same-print f None l e = absurd (false≢true e)
same-print f (Some r) None e = absurd (false≢true e)
same-print f (Some r) (Some s) e = eq-eqb (f r) (f s) (ap f (same-row r s e))

-- so what is touched is touched by fingerprints
alone-by : (f : TableRow → ℕ) (c : Change) (ms : List Marked) → is_left_alone_by f c ms ≡ true → is_left_alone c ms ≡ true
alone-by f c [] e = refl
alone-by f c (m ∷ ms) e =
    let (here, rest) = and_parts _ _ e in
    and_from _ _ (weaker m.selected (touches_by_print f m.change c) (touches m.change c) (same-print f (takes m.change) (leaves c)) here) (alone-by f c ms rest)
  where
    weaker : (s a b : Bool) → (b ≡ true → a ≡ true) → (s || not a) ≡ true → (s || not b) ≡ true
    weaker true a b implied holds = refl
    weaker false a false implied holds = refl
    weaker false a true implied holds = absurd (false≢true (sym (ap not (implied refl)) ∙ holds))

-- ---- the part can be undone

by-untouched : (f : TableRow → ℕ) (ms : List Marked) → is_untouched (part_by f ms) ≡ true
by-untouched f [] = refl
by-untouched f (m ∷ ms) =
    and_from _ _ (kept m.selected (is_left_alone_by f m.change (part_by f ms)) (is_left_alone m.change (part_by f ms)) (alone-by f m.change (part_by f ms))) (by-untouched f ms)
  where
    kept : (s a b : Bool) → (a ≡ true → b ≡ true) → (not (s && a) || b) ≡ true
    kept true true b implied = implied refl
    kept true false b implied = refl
    kept false a b implied = refl

by-within : (f : TableRow → ℕ) (ms : List Marked) → SelectsWithin (part_by f ms) ms
by-within f [] = tt
by-within f (m ∷ ms) = (record { same = refl; within = λ e. (and_parts _ _ e).0 }, by-within f ms)

by-changes : (f : TableRow → ℕ) (ms : List Marked) → all_changes (part_by f ms) ≡ all_changes ms
by-changes f [] = refl
by-changes f (m ∷ ms) = ap (λ cs. m.change ∷ cs) (by-changes f ms)

pub part-undoable : (f : TableRow → ℕ) (ms : List Marked) → IsUndoable ms (part_by f ms)
part-undoable f ms = record {
  within = by-within f ms;
  untouched = by-untouched f ms;
  taken_back = λ before after e. takes-back (part_by f ms) before after (by-untouched f ms) (ap (λ cs. apply_all cs before) (by-changes f ms) ∙ e);
}

-- ---- and is the greatest where fingerprints tell rows apart

touches-same : (f : TableRow → ℕ) (o l : Option TableRow) → ((r s : TableRow) → o ≡ Some r → l ≡ Some s → f r ≡ f s → r ≡ s) → has_same_print f o l ≡ is_same_row o l
touches-same f None l apart = refl
touches-same f (Some r) None apart = refl
touches-same f (Some r) (Some s) apart = by_case (nat_eq (f r) (f s)) refl (is_same_row (Some r) (Some s)) refl
  where
    by_case : (a : Bool) → nat_eq (f r) (f s) ≡ a → (b : Bool) → is_same_row (Some r) (Some s) ≡ b → nat_eq (f r) (f s) ≡ is_same_row (Some r) (Some s)
    by_case true prints b rows = prints ∙ sym (row-itself r s (apart r s refl refl (eqb-true (f r) (f s) prints)))
    by_case false prints false rows = prints ∙ sym rows
    by_case false prints true rows = absurd (false≢true (sym prints ∙ same-print f (Some r) (Some s) rows))

alone-same : (f : TableRow → ℕ) (c : Change) (ms : List Marked) → ((i : ℕ) (m : Marked) → slice_get ms i ≡ Some m → touches_by_print f m.change c ≡ touches m.change c)
    → is_left_alone_by f c (part_by f ms) ≡ is_left_alone c (part_by f ms)
alone-same f c [] same = refl
alone-same f c (m ∷ ms) same =
    ap₂ (λ (t rest : Bool). ((m.selected && is_left_alone_by f m.change (part_by f ms)) || not t) && rest) (same 0 m refl) (alone-same f c ms (λ i n at. same (suc i) n at))

pub part-greatest : (f : TableRow → ℕ) (ms : List Marked) → TellsApart f ms → part_by f ms ≡ untouched_part ms
part-greatest f [] apart = refl
part-greatest f (m ∷ ms) apart =
    let later = part-greatest f ms (λ i k n o r s at there. apart (suc i) (suc k) n o r s at there) in
    let same = alone-same f m.change ms (λ i n at. touches-same f (takes n.change) (leaves m.change) (λ r s taken left. apart (suc i) 0 n m r s at refl taken left)) in
    ap (λ (b : Bool). record m { selected = m.selected && b } ∷ part_by f ms) same
    ∙ ap (λ (part : List Marked). record m { selected = m.selected && is_left_alone m.change part } ∷ part) later

-- ---- what is outside of it

touched-by : (f : TableRow → ℕ) (c : Change) (ps : List Marked) → is_left_alone_by f c ps ≡ false
    → (k : ℕ) × (p : Marked) × (slice_get ps k ≡ Some p) × (p.selected ≡ false) × (touches_by_print f p.change c ≡ true)
touched-by f c [] e = absurd (false≢true (sym e))
touched-by f c (p ∷ ps) e = ⊎_elim
    (λ here. let parts = or_parts p.selected (not (touches_by_print f p.change c)) here in (zero, p, refl, parts.0, not-false (touches_by_print f p.change c) parts.1))
    (λ later. let (k, q, there, outside, touched) = touched-by f c ps later in (suc k, q, there, outside, touched))
    (and_cases (p.selected || not (touches_by_print f p.change c)) (is_left_alone_by f c ps) e)

pub left-out-touched-by : (f : TableRow → ℕ) (ms : List Marked) → LeavesOutTouchedBy f ms (part_by f ms)
left-out-touched-by f [] i m n there selected kept outside = absurd (none-some m there)
left-out-touched-by f (l ∷ ms) zero m n there selected kept outside =
    let part = part_by f ms in
    let is : l ≡ m = same_Some l m there in
    let not_kept : (l.selected && is_left_alone_by f l.change part) ≡ false = ap (λ x. x.selected) (same_Some _ _ kept) ∙ outside in
    let touched : is_left_alone_by f l.change part ≡ false = sym (ap (λ b. b && is_left_alone_by f l.change part) (ap (λ x. x.selected) is ∙ selected)) ∙ not_kept in
    let (k, other, at, out, by) = touched-by f l.change part touched in
    record { place = suc k; after = omega arith; other = other; there = at; outside = out; touched = ap (λ x. touches_by_print f other.change x.change) (sym is) ∙ by }
left-out-touched-by f (l ∷ ms) (suc i) m n there selected kept outside =
    let h = left-out-touched-by f ms i m n there selected kept outside in
    record { place = suc h.place; after = omega (arith, h.after); other = h.other; there = h.there; outside = h.outside; touched = h.touched }

-- ---- nothing is outside if no other change touches a selected one

-- no change that isn't selected takes a row with one of these fingerprints
abbrev takes_none_by : (TableRow → ℕ) → List ℕ → List Marked → Bool
takes_none_by f prints ms = list_all (λ m. m.selected || not (has_print_among f (takes m.change) prints)) ms

none-same : (f : TableRow → ℕ) (o : Option TableRow) → has_same_print f o None ≡ false
none-same f None = refl
none-same f (Some r) = refl

among-more : (f : TableRow → ℕ) (o l : Option TableRow) (prints : List ℕ) → has_print_among f o (cons_option (option_map f l) prints) ≡ (has_same_print f o l || has_print_among f o prints)
among-more f o None prints = ap (λ b. b || has_print_among f o prints) (sym (none-same f o))
among-more f None (Some s) prints = refl
among-more f (Some r) (Some s) prints = refl

-- where none takes one of more, a change is left alone, and none takes one of these
none-more : (f : TableRow → ℕ) (c : Change) (prints : List ℕ) (ms : List Marked) → takes_none_by f (cons_option (option_map f (leaves c)) prints) ms ≡ true
    → (is_left_alone_by f c ms ≡ true) × (takes_none_by f prints ms ≡ true)
none-more f c prints [] e = (refl, refl)
none-more f c prints (m ∷ ms) e =
    let (here, rest) = and_parts _ _ e in
    let (alone, none) = none-more f c prints ms rest in
    let both = split m.selected (touches_by_print f m.change c) (has_print_among f (takes m.change) prints)
    (sym (ap (λ b. m.selected || not b) (among-more f (takes m.change) (leaves c) prints)) ∙ here) in
    (and_from _ _ both.0 alone, and_from _ _ both.1 none)
  where
    split : (s a b : Bool) → (s || not (a || b)) ≡ true → ((s || not a) ≡ true) × ((s || not b) ≡ true)
    split true a b holds = (refl, refl)
    split false true b holds = absurd (false≢true holds)
    split false false true holds = absurd (false≢true holds)
    split false false false holds = (refl, refl)

passed : (f : TableRow → ℕ) (prints : List ℕ) (ms : List Marked) → passes_by f prints ms ≡ true → (part_by f ms ≡ ms) × (takes_none_by f prints ms ≡ true)
passed f prints [] e = (refl, refl)
passed f prints (m ∷ ms) e = by_case m.selected refl (passed f (cons_option (option_map f (leaves m.change)) prints) ms) (passed f prints ms)
  where
    kept : (b : Bool) → m.selected ≡ b → (b ≡ true → is_left_alone_by f m.change (part_by f ms) ≡ true) → part_by f ms ≡ ms → part_by f (m ∷ ms) ≡ m ∷ ms
    kept b is alone later = ap₂ (λ (s : Bool) (part : List Marked). record m { selected = s } ∷ part) (test b m.selected (is_left_alone_by f m.change (part_by f ms)) is alone) later
      where
        test : (b s a : Bool) → s ≡ b → (b ≡ true → a ≡ true) → (s && a) ≡ s
        test b false a is alone = refl
        test true true a is alone = alone refl
        test false true a is alone = absurd (false≢true (sym is))

    by_case : (b : Bool) → m.selected ≡ b
        → (passes_by f (cons_option (option_map f (leaves m.change)) prints) ms ≡ true → (part_by f ms ≡ ms) × (takes_none_by f (cons_option (option_map f (leaves m.change)) prints) ms ≡ true))
        → (passes_by f prints ms ≡ true → (part_by f ms ≡ ms) × (takes_none_by f prints ms ≡ true))
        → (part_by f (m ∷ ms) ≡ m ∷ ms) × (takes_none_by f prints (m ∷ ms) ≡ true)
    by_case true is more same =
        let (part, none) = more (sym (cond-true m.selected _ _ is) ∙ e) in
        let (alone, rest) = none-more f m.change prints ms none in (
          kept true is (λ _. ap (is_left_alone_by f m.change) part ∙ alone) part,
          and_from _ _ (ap (λ b. b || not (has_print_among f (takes m.change) prints)) is) rest,
        )
    by_case false is more same =
        let (free, rest) = and_parts _ _ (sym (cond-false m.selected _ _ is) ∙ e) in
        let (part, none) = same rest in
        (kept false is (λ never. absurd (false≢true never)) part, and_from _ _ (or_right m.selected _ free) none)

pub all-kept : (f : TableRow → ℕ) (ms : List Marked) → passes_by f [] ms ≡ true → part_by f ms ≡ ms
all-kept f ms e = (passed f [] ms e).0
