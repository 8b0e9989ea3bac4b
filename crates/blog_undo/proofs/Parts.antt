-- The part of the selected changes that can be undone while the rest is left.
use Rattle.std.proofs.Common.{◌≡◌, ℕ, zero, suc, Bool, true, false, not, ◌&&◌, ◌||◌, List, [], ◌∷◌, Some, refl, sym, ap, ◌∙◌, arith}
use Rattle.std.specs.Prelude.{slice_get}
use Rattle.std.proofs.lemmas.Bool.{false≢true, and_cases, and_from, and_parts, not-false, or_cases, or_left, or_parts, or_right}
use Rattle.std.proofs.lemmas.Option.{none-some, same_Some}
use Rattle.blog_trans.specs.Changes.{Change}
use Rattle.blog_flash.specs.States.{State, apply_all}
use Rattle.blog_undo.specs.Mixed.{Marked, all_changes, is_left_alone, is_untouched, touches}
use Rattle.blog_undo.specs.Laws.{AsIfNever}
use Rattle.blog_undo.specs.Part.{IsGreatestPart, LeavesOutTouched, SelectsWithin, untouched_part}
use Rattle.blog_undo.proofs.TakingBack.{takes-back}
use mathlib.Core.Logic.{⊎_elim}

-- ---- the part is untouched

-- a change that is kept only where it is left alone
kept-alone : (s a : Bool) → (not (s && a) || a) ≡ true
kept-alone true true = refl
kept-alone true false = refl
kept-alone false a = refl

part-untouched : (ms : List Marked) → is_untouched (untouched_part ms) ≡ true
part-untouched [] = refl
part-untouched (m ∷ ms) = and_from _ _ (kept-alone m.selected (is_left_alone m.change (untouched_part ms))) (part-untouched ms)

-- ---- and within the selected changes

part-within : (ms : List Marked) → SelectsWithin (untouched_part ms) ms
part-within [] = tt
part-within (m ∷ ms) = (record { same = refl; within = λ e. (and_parts _ _ e).0 }, part-within ms)

-- ---- and the greatest such

-- where more is selected, a change is left alone as well
left-alone-more : (c : Change) (ns ps : List Marked) → SelectsWithin ns ps → is_left_alone c ns ≡ true → is_left_alone c ps ≡ true
left-alone-more c [] [] within free = refl
left-alone-more c [] (p ∷ ps) within free = absurd within
left-alone-more c (n ∷ ns) [] within free = absurd within
left-alone-more c (n ∷ ns) (p ∷ ps) within free =
    let (here, rest) = and_parts _ _ free in
    and_from _ _
    (⊎_elim
    (λ selected. or_left p.selected (not (touches p.change c)) (within.0.within selected))
    (λ apart. or_right p.selected (not (touches p.change c)) (ap (λ d. not (touches d c)) (sym within.0.same) ∙ apart))
    (or_cases n.selected (not (touches n.change c)) here))
    (left-alone-more c ns ps within.1 rest)

part-greatest : (ms ns : List Marked) → SelectsWithin ns ms → is_untouched ns ≡ true → SelectsWithin ns (untouched_part ms)
part-greatest [] [] within free = tt
part-greatest [] (n ∷ ns) within free = absurd within
part-greatest (m ∷ ms) [] within free = absurd within
part-greatest (m ∷ ms) (n ∷ ns) within free =
    let (here, rest) = and_parts _ _ free in
    let later = part-greatest ms ns within.1 rest in
    let left : n.selected ≡ true → is_left_alone n.change ns ≡ true = λ e. sym (ap (λ b. not b || is_left_alone n.change ns) e) ∙ here in
    let alone : n.selected ≡ true → is_left_alone m.change (untouched_part ms) ≡ true =
    λ e. ap (λ c. is_left_alone c (untouched_part ms)) (sym within.0.same) ∙ left-alone-more n.change ns (untouched_part ms) later (left e) in
    (record { same = within.0.same; within = λ e. and_from _ _ (within.0.within e) (alone e) }, later)

pub greatest-part : (ms : List Marked) → IsGreatestPart ms (untouched_part ms)
greatest-part ms = record { within = part-within ms; untouched = part-untouched ms; greatest = part-greatest ms }

-- ---- what is outside of it

-- a change that isn't left alone is touched by one that isn't selected
touched-by : (c : Change) (ps : List Marked) → is_left_alone c ps ≡ false
    → (k : ℕ) × (p : Marked) × (slice_get ps k ≡ Some p) × (p.selected ≡ false) × (touches p.change c ≡ true)
touched-by c [] e = absurd (false≢true (sym e))
touched-by c (p ∷ ps) e = ⊎_elim
    (λ here. let parts = or_parts p.selected (not (touches p.change c)) here in (zero, p, refl, parts.0, not-false (touches p.change c) parts.1))
    (λ later. let (k, q, there, outside, touched) = touched-by c ps later in (suc k, q, there, outside, touched))
    (and_cases (p.selected || not (touches p.change c)) (is_left_alone c ps) e)

pub left-out-touched : (ms : List Marked) → LeavesOutTouched ms (untouched_part ms)
left-out-touched [] i m n there selected kept outside = absurd (none-some m there)
left-out-touched (l ∷ ms) zero m n there selected kept outside =
    let part = untouched_part ms in
    let is : l ≡ m = same_Some l m there in
    let not_kept : (l.selected && is_left_alone l.change part) ≡ false = ap (λ x. x.selected) (same_Some _ _ kept) ∙ outside in
    let touched : is_left_alone l.change part ≡ false = sym (ap (λ b. b && is_left_alone l.change part) (ap (λ x. x.selected) is ∙ selected)) ∙ not_kept in
    let (k, other, at, out, by) = touched-by l.change part touched in
    record { place = suc k; after = omega arith; other = other; there = at; outside = out; touched = ap (λ x. touches other.change x.change) (sym is) ∙ by }
left-out-touched (l ∷ ms) (suc i) m n there selected kept outside =
    let h = left-out-touched ms i m n there selected kept outside in
    record { place = suc h.place; after = omega (arith, h.after); other = h.other; there = h.there; outside = h.outside; touched = h.touched }

-- ---- the part is taken back

part-changes : (ms : List Marked) → all_changes (untouched_part ms) ≡ all_changes ms
part-changes [] = refl
part-changes (m ∷ ms) = ap (λ cs. m.change ∷ cs) (part-changes ms)

pub part-taken-back : (ms : List Marked) (before after : State) → apply_all (all_changes ms) before ≡ Some after → AsIfNever (untouched_part ms) before after
part-taken-back ms before after e =
    takes-back (untouched_part ms) before after (part-untouched ms) (ap (λ cs. apply_all cs before) (part-changes ms) ∙ e)
