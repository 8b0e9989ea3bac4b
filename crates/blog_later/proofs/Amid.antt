-- On the way through the units of a log, of which some are chosen.
use Rattle.std.proofs.Common.{◌≡◌, ℕ, ◌+◌, Bool, true, false, not, cond, List, [], ◌∷◌, ◌++◌, length, map, refl, sym, ap, ap₂, subst, ◌∙◌, append-nil, append_assoc, arith}
use Rattle.std.specs.Prelude.{filter, if◌then◌else◌, nat_lt, ◌<◌}
use Rattle.std.proofs.lemmas.Bool.{cond-true, cond-false, lt-ltb}
use Rattle.std.proofs.lemmas.List.Elements.{filter-append}
use Rattle.blog_choice.specs.Choice.{Choice}
use Rattle.blog_units.specs.Units.{Facts}
use Rattle.blog_later.specs.Among.{chosen_of, from_first, others_of, touches_by}
use Rattle.blog_later.specs.Later.{touches_in}
use Rattle.blog_later.specs.Prints.{Left}
use Rattle.blog_later.specs.code.LookedView.{AreSeen}
use Rattle.blog_later.specs.declared.looked.Looked.{Looked}
use Rattle.blog_later.proofs.Counting.{count-append}
use Rattle.blog_later.proofs.Seen.{one-out}

-- ---- one more unit

-- it is chosen
touches-chosen : (lefts : ℕ → Left) (p : Facts → Bool) (bytes : List ℕ) (k : ℕ) (us : List Facts) (u : Facts) → p u ≡ true
    → touches_by lefts p bytes k (us ++ u ∷ []) ≡ touches_by lefts p bytes k us
touches-chosen lefts p bytes k [] u is = cond-true (p u) _ _ is
touches-chosen lefts p bytes k (v ∷ us) u is =
    ap₂ (λ (a b : ℕ). if p v then a else touches_in (lefts k) bytes (v ∷ []) + b) (touches-chosen lefts p bytes (k + 1) us u is) (touches-chosen lefts p bytes k us u is)

-- or isn't
touches-other : (lefts : ℕ → Left) (p : Facts → Bool) (bytes : List ℕ) (k : ℕ) (us : List Facts) (u : Facts) → p u ≡ false
    → touches_by lefts p bytes k (us ++ u ∷ []) ≡ touches_by lefts p bytes k us + touches_in (lefts (k + length (chosen_of p us))) bytes (u ∷ [])
touches-other lefts p bytes k [] u is =
    let none : k ≡ k + 0 = omega arith in
    let same = ap (λ (m : ℕ). touches_in (lefts m) bytes (u ∷ [])) none in
    let sum : touches_in (lefts k) bytes (u ∷ []) + 0 ≡ 0 + touches_in (lefts (k + 0)) bytes (u ∷ []) = omega (arith, same) in
    cond-false (p u) _ _ is ∙ sum
touches-other lefts p bytes k (v ∷ us) u is = by_case (p v) refl (touches-other lefts p bytes (k + 1) us u is) (touches-other lefts p bytes k us u is)
  where
    own : ℕ → ℕ
    own m = touches_in (lefts m) bytes (u ∷ [])

    by_case : (b : Bool) → p v ≡ b → touches_by lefts p bytes (k + 1) (us ++ u ∷ []) ≡ touches_by lefts p bytes (k + 1) us + own ((k + 1) + length (chosen_of p us))
        → touches_by lefts p bytes k (us ++ u ∷ []) ≡ touches_by lefts p bytes k us + own (k + length (chosen_of p us))
        → touches_by lefts p bytes k ((v ∷ us) ++ u ∷ []) ≡ touches_by lefts p bytes k (v ∷ us) + own (k + length (chosen_of p (v ∷ us)))
    by_case true e later same =
        let more : (k + 1) + length (chosen_of p us) ≡ k + length (v ∷ chosen_of p us) = omega arith in
        cond-true (p v) _ _ e ∙ later ∙ ap (λ (m : ℕ). touches_by lefts p bytes (k + 1) us + own m) more
        ∙ sym (ap₂ (λ (a : ℕ) (vs : List Facts). a + own (k + length vs)) (cond-true (p v) (touches_by lefts p bytes (k + 1) us) (touches_in (lefts k) bytes (v ∷ []) + touches_by lefts p bytes k us) e)
        (cond-true (p v) (v ∷ chosen_of p us) (chosen_of p us) e))
    by_case false e later same =
        let sum : touches_in (lefts k) bytes (v ∷ []) + (touches_by lefts p bytes k us + own (k + length (chosen_of p us))) ≡ (touches_in (lefts k) bytes (v ∷ []) + touches_by lefts p bytes k us) + own (k + length (chosen_of p us)) = omega arith in
        cond-false (p v) _ _ e ∙ ap (λ (a : ℕ). touches_in (lefts k) bytes (v ∷ []) + a) same ∙ sum
        ∙ sym (ap₂ (λ (a : ℕ) (vs : List Facts). a + own (k + length vs)) (cond-false (p v) (touches_by lefts p bytes (k + 1) us) (touches_in (lefts k) bytes (v ∷ []) + touches_by lefts p bytes k us) e)
        (cond-false (p v) (v ∷ chosen_of p us) (chosen_of p us) e))

one-in : (test : Facts → Bool) (us : List Facts) (u : Facts) → test u ≡ true → filter test (us ++ u ∷ []) ≡ filter test us ++ u ∷ []
one-in test us u holds = filter-append test us (u ∷ []) ∙ ap (λ (vs : List Facts). filter test us ++ vs) (cond-true (test u) (u ∷ []) [] holds)

-- ---- so far

-- the units that are left to be looked at: none before the first chosen one
abbrev going : (Facts → Bool) → ℕ → List Facts → List Facts
going p lists left = if nat_lt 0 lists then left else from_first p left

-- what was seen is of some units, which with those that are left make up all, and so many of them are chosen
pub record IsAmid {A : Type 0} (lefts : ℕ → Left) (p : Facts → Bool) (choice : Choice) (bytes : List ℕ) (all : List Facts) (looked : Looked A) (lists : ℕ) (left : List Facts) : Type 0 where
  pub done : List Facts
  pub whole : done ++ going p lists left ≡ from_first p all
  pub many : lists ≡ length (chosen_of p done)
  pub are : AreSeen choice bytes (others_of p done) (touches_by lefts p bytes 0 done) looked

pub amid-none : {A : Type 0} (lefts : ℕ → Left) (p : Facts → Bool) (choice : Choice) (bytes : List ℕ) (all left : List Facts) (looked : Looked A) → left ≡ all → AreSeen choice bytes [] 0 looked
    → IsAmid lefts p choice bytes all looked 0 left
amid-none lefts p choice bytes all left looked same are = record { done = []; whole = ap (from_first p) same; many = refl; are = are }

-- once one is chosen all are
going-some : (p : Facts → Bool) (lists : ℕ) (left : List Facts) → 0 < lists → going p lists left ≡ left
going-some p lists left some = cond-true (nat_lt 0 lists) left (from_first p left) (lt-ltb 0 lists some)

going-chosen : (p : Facts → Bool) (lists : ℕ) (u : Facts) (left rest : List Facts) → left ≡ u ∷ rest → p u ≡ true → going p lists left ≡ u ∷ rest
going-chosen p lists u left rest first is = by_case (nat_lt 0 lists)
  where
    by_case : (b : Bool) → (if b then left else from_first p left) ≡ u ∷ rest
    by_case true = first
    by_case false = ap (from_first p) first ∙ cond-true (p u) (u ∷ rest) (from_first p rest) is

going-end : (p : Facts → Bool) (lists : ℕ) → going p lists [] ≡ []
going-end p lists = by_case (nat_lt 0 lists)
  where
    by_case : (b : Bool) → (if b then [] else from_first p []) ≡ []
    by_case true = refl
    by_case false = refl

whole-more : (all done rest left : List Facts) (u : Facts) → done ++ left ≡ all → left ≡ u ∷ rest → (done ++ u ∷ []) ++ rest ≡ all
whole-more all done rest left u whole first = append_assoc done (u ∷ []) rest ∙ ap (λ (xs : List Facts). done ++ xs) (sym first) ∙ whole

pub amid-chosen : {A : Type 0} (lefts : ℕ → Left) (p : Facts → Bool) (choice : Choice) (bytes : List ℕ) (all : List Facts) (looked : Looked A) (lists more : ℕ) (u : Facts) (left rest : List Facts)
    → IsAmid lefts p choice bytes all looked lists left → left ≡ u ∷ rest → p u ≡ true → more ≡ lists + 1 → IsAmid lefts p choice bytes all looked more rest
amid-chosen lefts p choice bytes all looked lists more u left rest s first is next =
    let long = ap length (one-in p s.done u is) in
    let count = count-append p s.done (u ∷ []) in
    let one = ap length (cond-true (p u) (u ∷ []) [] is) in
    record {
      done = s.done ++ u ∷ [];
      whole = ap (λ (xs : List Facts). (s.done ++ u ∷ []) ++ xs) (going-some p more rest (omega (arith, next)))
          ∙ whole-more (from_first p all) s.done rest (going p lists left) u s.whole (going-chosen p lists u left rest first is);
      many = omega (arith, next, s.many, count, one);
      are = subst (λ (us : List Facts). AreSeen choice bytes us (touches_by lefts p bytes 0 (s.done ++ u ∷ [])) looked) (sym (one-out (λ v. not (p v)) s.done u (ap not is)))
          (subst (λ (n : ℕ). AreSeen choice bytes (others_of p s.done) n looked) (sym (touches-chosen lefts p bytes 0 s.done u is)) s.are);
    }

-- one before the first chosen one
pub amid-before : {A : Type 0} (lefts : ℕ → Left) (p : Facts → Bool) (choice : Choice) (bytes : List ℕ) (all : List Facts) (looked : Looked A) (lists : ℕ) (u : Facts) (left rest : List Facts)
    → IsAmid lefts p choice bytes all looked lists left → left ≡ u ∷ rest → p u ≡ false → lists ≡ 0 → IsAmid lefts p choice bytes all looked lists rest
amid-before lefts p choice bytes all looked lists u left rest s first is none = record {
  done = s.done;
  whole =
      let before : going p lists left ≡ from_first p left = ap (λ (n : ℕ). going p n left) none in
      let after : going p lists rest ≡ from_first p rest = ap (λ (n : ℕ). going p n rest) none in
      ap (λ (xs : List Facts). s.done ++ xs) (after ∙ sym (cond-false (p u) (u ∷ rest) (from_first p rest) is) ∙ sym (ap (from_first p) first) ∙ sym before) ∙ s.whole;
  many = s.many;
  are = s.are;
}

pub amid-other : {A : Type 0} (lefts : ℕ → Left) (p : Facts → Bool) (choice : Choice) (bytes : List ℕ) (all : List Facts) (looked new : Looked A) (lists : ℕ) (u : Facts) (left rest : List Facts)
    → (s : IsAmid lefts p choice bytes all looked lists left) → left ≡ u ∷ rest → p u ≡ false → 0 < lists
    → AreSeen choice bytes (others_of p s.done ++ u ∷ []) (touches_by lefts p bytes 0 s.done + touches_in (lefts lists) bytes (u ∷ [])) new → IsAmid lefts p choice bytes all new lists rest
amid-other lefts p choice bytes all looked new lists u left rest s first is some seen =
    let zero : 0 + length (chosen_of p s.done) ≡ length (chosen_of p s.done) = omega arith in
    let all_are : touches_by lefts p bytes 0 s.done + touches_in (lefts lists) bytes (u ∷ []) ≡ touches_by lefts p bytes 0 (s.done ++ u ∷ []) =
    ap (λ (m : ℕ). touches_by lefts p bytes 0 s.done + touches_in (lefts m) bytes (u ∷ [])) (s.many ∙ sym zero) ∙ sym (touches-other lefts p bytes 0 s.done u is) in
    record {
      done = s.done ++ u ∷ [];
      whole = ap (λ (xs : List Facts). (s.done ++ u ∷ []) ++ xs) (going-some p lists rest some)
          ∙ whole-more (from_first p all) s.done rest (going p lists left) u s.whole (going-some p lists left some ∙ first);
      many = s.many ∙ ap length (sym (one-out p s.done u is));
      are = subst (λ (us : List Facts). AreSeen choice bytes us (touches_by lefts p bytes 0 (s.done ++ u ∷ [])) new) (sym (one-in (λ v. not (p v)) s.done u (ap not is)))
          (subst (λ (n : ℕ). AreSeen choice bytes (others_of p s.done ++ u ∷ []) n new) all_are seen);
    }

pub amid-end : {A : Type 0} (lefts : ℕ → Left) (p : Facts → Bool) (choice : Choice) (bytes : List ℕ) (all : List Facts) (looked : Looked A) (lists : ℕ) (left : List Facts)
    → IsAmid lefts p choice bytes all looked lists left → left ≡ [] → AreSeen choice bytes (others_of p (from_first p all)) (touches_by lefts p bytes 0 (from_first p all)) looked
amid-end lefts p choice bytes all looked lists left s none =
    let done : s.done ≡ from_first p all = sym (append-nil s.done) ∙ ap (λ (xs : List Facts). s.done ++ xs) (sym (going-end p lists) ∙ sym (ap (going p lists) none)) ∙ s.whole in
    subst (λ (us : List Facts). AreSeen choice bytes (others_of p us) (touches_by lefts p bytes 0 us) looked) done s.are

-- ---- with the marks of the units that are left

pub record IsMarked {A : Type 0} (lefts : ℕ → Left) (p : Facts → Bool) (choice : Choice) (bytes : List ℕ) (all : List Facts) (looked : Looked A) (lists : ℕ) (marks : List Bool) (left : List Facts) : Type 0 where
  pub marks_are : marks ≡ map p left
  pub amid : IsAmid lefts p choice bytes all looked lists left

-- the mark of the first of them
pub marked-first : {A : Type 0} (lefts : ℕ → Left) (p : Facts → Bool) (choice : Choice) (bytes : List ℕ) (all : List Facts) (looked : Looked A) (lists : ℕ) (marks : List Bool) (u : Facts) (left rest : List Facts)
    → IsMarked lefts p choice bytes all looked lists marks left → left ≡ u ∷ rest → marks ≡ p u ∷ map p rest
marked-first lefts p choice bytes all looked lists marks u left rest s first = s.marks_are ∙ ap (map p) first
