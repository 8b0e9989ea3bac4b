-- What is seen of units, one by one.
use Rattle.std.proofs.Common.{◌≡◌, ◌∙◌, ℕ, ◌≤◌, ◌<◌, Bool, true, false, List, [], ◌∷◌, ◌++◌, map, filter, Option, Some, None, refl, sym, ap, subst, append_assoc, append-nil, arith}
use Rattle.std.specs.Prelude.{◌==◌, ◌&&◌, ◌||◌, min, max, nat_le, cond}
use Rattle.std.specs.List.{AllByRecursion, list_any}
use Rattle.std.proofs.Math.Bool.{or-false}
use Rattle.std.proofs.lemmas.Bool.{cond-true, cond-false}
use Rattle.std.proofs.lemmas.Bool.Decides.{nat_tests}
use Rattle.std.proofs.lemmas.List.Folds.{list_any-append}
use Rattle.blog_row.proofs.ReversedRows.{all-append}
use Rattle.blog_units.specs.Units.{Facts}
use Rattle.blog_request.specs.Wanted.{is_before, is_from}
use Rattle.blog_request.specs.declared.wanted.Wanted.{Wanted}
use Rattle.blog_reasons.specs.Reasons.{AreEnds, is_in_times}
use Rattle.blog_reasons.specs.declared.units.Range.{Range}
use Rattle.blog_reasons.specs.declared.units.SeenUnits.{SeenUnits}
use Rattle.blog_reasons.specs.declared.units.Times.{Times}
use Rattle.blog_reasons.specs.code.UnitsView.{AreSeenUnits, AreTimes, seen_with, with_time}

-- ---- one more unit

or-true : (b : Bool) → (b || true) ≡ true
or-true true = refl
or-true false = refl

-- one of the others passes a test
before : (us : List Facts) (u : Facts) (test : Facts → Bool) → list_any test us ≡ true → list_any test (us ++ u ∷ []) ≡ true
before us u test one = list_any-append test us (u ∷ []) ∙ ap (λ (b : Bool). b || list_any test (u ∷ [])) one

-- the last does
here : (us : List Facts) (u : Facts) (test : Facts → Bool) → test u ≡ true → list_any test (us ++ u ∷ []) ≡ true
here us u test this = list_any-append test us (u ∷ []) ∙ ap (λ (b : Bool). list_any test us || (b || false)) this ∙ or-true (list_any test us)

same-time : (n : ℕ) → (n == n) ≡ true
same-time n = grind (arith, nat_tests)

lesser : (a b : ℕ) → nat_le a b ≡ true → min a b ≡ a
lesser a b h = let le : a ≤ b = grind (arith, nat_tests) in omega arith

lesser-last : (a b : ℕ) → nat_le a b ≡ false → min a b ≡ b
lesser-last a b h = let lt : b < a = grind (arith, nat_tests) in omega arith

greater : (a b : ℕ) → nat_le b a ≡ true → max a b ≡ a
greater a b h = let le : b ≤ a = grind (arith, nat_tests) in omega arith

greater-last : (a b : ℕ) → nat_le b a ≡ false → max a b ≡ b
greater-last a b h = let lt : a < b = grind (arith, nat_tests) in omega arith

first-more : (us : List Facts) (u : Facts) (first : ℕ) → list_any (λ v. v.time == first) us ≡ true → list_any (λ v. v.time == min first u.time) (us ++ u ∷ []) ≡ true
first-more us u first one = by_case (nat_le first u.time) refl
  where
    Is : ℕ → Type 0
    Is n = list_any (λ v. v.time == n) (us ++ u ∷ []) ≡ true

    by_case : (b : Bool) → nat_le first u.time ≡ b → Is (min first u.time)
    by_case true h = subst Is (sym (lesser first u.time h)) (before us u (λ v. v.time == first) one)
    by_case false h = subst Is (sym (lesser-last first u.time h)) (here us u (λ v. v.time == u.time) (same-time u.time))

last-more : (us : List Facts) (u : Facts) (last : ℕ) → list_any (λ v. v.time == last) us ≡ true → list_any (λ v. v.time == max last u.time) (us ++ u ∷ []) ≡ true
last-more us u last one = by_case (nat_le u.time last) refl
  where
    Is : ℕ → Type 0
    Is n = list_any (λ v. v.time == n) (us ++ u ∷ []) ≡ true

    by_case : (b : Bool) → nat_le u.time last ≡ b → Is (max last u.time)
    by_case true h = subst Is (sym (greater last u.time h)) (before us u (λ v. v.time == last) one)
    by_case false h = subst Is (sym (greater-last last u.time h)) (here us u (λ v. v.time == u.time) (same-time u.time))

abbrev IsBetween : ℕ → ℕ → Facts → Type 0
IsBetween first last u = (first ≤ u.time) × (u.time ≤ last)

wider : (first last less more : ℕ) (us : List Facts) → less ≤ first → last ≤ more → AllByRecursion (IsBetween first last) us → AllByRecursion (IsBetween less more) us
wider first last less more [] below above all = tt
wider first last less more (u ∷ us) below above all = ((omega (arith, all.0), omega (arith, all.0)), wider first last less more us below above all.1)

ends-more : (us : List Facts) (u : Facts) (first last : ℕ) → AreEnds us first last → AreEnds (us ++ u ∷ []) (min first u.time) (max last u.time)
ends-more us u first last ends = record {
  one_is_first = first-more us u first ends.one_is_first;
  one_is_last = last-more us u last ends.one_is_last;
  all_between = all-append (IsBetween (min first u.time) (max last u.time)) us (u ∷ [])
      (wider first last (min first u.time) (max last u.time) us (omega arith) (omega arith) ends.all_between) ((omega arith, omega arith), tt);
}

ends-one : (u : Facts) → AreEnds (u ∷ []) u.time u.time
ends-one u = record {
  one_is_first = ap (λ (b : Bool). b || false) (same-time u.time);
  one_is_last = ap (λ (b : Bool). b || false) (same-time u.time);
  all_between = ((omega arith, omega arith), tt);
}

times-more : (us : List Facts) (u : Facts) (times : Option Times) → AreTimes us times → AreTimes (us ++ u ∷ []) (Some (with_time times u.time))
times-more us u None none = subst (λ (xs : List Facts). AreEnds (xs ++ u ∷ []) u.time u.time) (sym none) (ends-one u)
times-more us u (Some times) ends = ends-more us u times.first times.last ends

any-more : (test : Facts → Bool) (us : List Facts) (u : Facts) (b : Bool) → b ≡ list_any test us → (b || test u) ≡ list_any test (us ++ u ∷ [])
any-more test us u b is =
    ap (λ (c : Bool). c || test u) is ∙ ap (λ (c : Bool). list_any test us || c) (sym (or-false (test u))) ∙ sym (list_any-append test us (u ∷ []))

pub seen-more : (w : Wanted) (us : List Facts) (u : Facts) (seen : SeenUnits) → AreSeenUnits w us seen → AreSeenUnits w (us ++ u ∷ []) (seen_with w seen u.time)
seen-more w us u seen are = record {
  times = times-more us u seen.times are.times;
  wanted = any-more (is_in_times w) us u seen.has_wanted are.wanted;
}

-- ---- on the way through the units of a log

-- a unit starts in a range
abbrev pub is_inside : Range → Facts → Bool
is_inside range u = is_from u.start range.start && is_before u.start range.stop

-- what was seen is of some units, which with those that are left and pass the test make up all
pub record IsSeeing (w : Wanted) (all : List Facts) (test : Facts → Bool) (seen : SeenUnits) (left : List Facts) : Type 0 where
  pub done : List Facts
  pub whole : done ++ filter test left ≡ all
  pub are : AreSeenUnits w done seen

pub seeing-none : (w : Wanted) (us every left : List Facts) (test : Facts → Bool) (seen : SeenUnits) → left ≡ every → AreSeenUnits w us seen → IsSeeing w (us ++ filter test every) test seen left
seeing-none w us every left test seen same are = record { done = us; whole = ap (λ (xs : List Facts). us ++ filter test xs) same; are = are }

pub seeing-in : (w : Wanted) (all : List Facts) (test : Facts → Bool) (seen new : SeenUnits) (u : Facts) (left rest : List Facts) → IsSeeing w all test seen left → left ≡ u ∷ rest
    → test u ≡ true → new ≡ seen_with w seen u.time → IsSeeing w all test new rest
seeing-in w all test seen new u left rest s first inside is =
    let kept : filter test left ≡ u ∷ filter test rest = ap (filter test) first ∙ cond-true _ _ _ inside in record {
      done = s.done ++ u ∷ [];
      whole = append_assoc s.done (u ∷ []) (filter test rest) ∙ ap (λ (xs : List Facts). s.done ++ xs) (sym kept) ∙ s.whole;
      are = subst (AreSeenUnits w (s.done ++ u ∷ [])) (sym is) (seen-more w s.done u seen s.are);
    }

pub seeing-out : (w : Wanted) (all : List Facts) (test : Facts → Bool) (seen : SeenUnits) (u : Facts) (left rest : List Facts) → IsSeeing w all test seen left → left ≡ u ∷ rest
    → test u ≡ false → IsSeeing w all test seen rest
seeing-out w all test seen u left rest s first outside =
    let kept : filter test left ≡ filter test rest = ap (filter test) first ∙ cond-false _ _ _ outside in record {
      done = s.done;
      whole = ap (λ (xs : List Facts). s.done ++ xs) (sym kept) ∙ s.whole;
      are = s.are;
    }

pub seeing-end : (w : Wanted) (all : List Facts) (test : Facts → Bool) (seen : SeenUnits) (left : List Facts) → IsSeeing w all test seen left → left ≡ [] → AreSeenUnits w all seen
seeing-end w all test seen left s none =
    let done : s.done ≡ all = sym (append-nil s.done) ∙ ap (λ (xs : List Facts). s.done ++ filter test xs) (sym none) ∙ s.whole in
    subst (λ (us : List Facts). AreSeenUnits w us seen) done s.are
