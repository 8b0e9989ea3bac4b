-- What is seen of one more unit, and on the way through the units of a log.
use Rattle.std.proofs.Common.{◌≡◌, ℕ, ◌+◌, ◌-◌, ◌^◌, Bool, true, false, not, ◌&&◌, List, [], ◌∷◌, ◌++◌, length, None, Result, Ok, sym, ap, subst, ◌∙◌, append-nil, append_assoc}
use Rattle.std.specs.Prelude.{filter, is_none, min}
use Rattle.std.proofs.lemmas.Bool.{cond-true, cond-false}
use Rattle.std.proofs.lemmas.List.Concat.{flat_map-append}
use Rattle.std.proofs.lemmas.List.Elements.{filter-append}
use Rattle.blog_choice.specs.Choice.{Choice}
use Rattle.blog_event.specs.declared.fault.Fault.{Fault}
use Rattle.blog_trans.specs.Acceptance.{IsAccepted, fault}
use Rattle.blog_trans.specs.Changes.{Change, changes}
use Rattle.blog_trans.specs.code.IndexView.{index_bytes, index_selection}
use Rattle.blog_trans.specs.declared.groups.Index.{Index}
use Rattle.blog_units.specs.Units.{Facts, between}
use Rattle.blog_units.specs.code.UnitsView.{AreGroups, IsJudged}
use Rattle.blog_units.specs.declared.unit.Unit as given
use Rattle.blog_later.specs.Later.{changes_in, is_accepted, is_apart, leaves_alone, may_concern, touches_in, unit_changes}
use Rattle.blog_later.specs.Prints.{Left, takes_left}
use Rattle.blog_later.specs.code.Counted.{at_most, starts}
use Rattle.blog_later.specs.code.LookedView.{AreSeen}
use Rattle.blog_later.specs.declared.looked.Looked.{Looked}
use Rattle.blog_later.proofs.Counting.{at-more, count-append}

-- ---- one more unit

one-in : (test : Facts → Bool) (u : Facts) → test u ≡ true → filter test (u ∷ []) ≡ u ∷ []
one-in test u holds = cond-true (test u) (u ∷ []) [] holds

pub one-out : (test : Facts → Bool) (us : List Facts) (u : Facts) → test u ≡ false → filter test (us ++ u ∷ []) ≡ filter test us
one-out test us u fails = filter-append test us (u ∷ []) ∙ ap (λ (vs : List Facts). filter test us ++ vs) (cond-false (test u) (u ∷ []) [] fails) ∙ append-nil (filter test us)

units-more : (test : Facts → Bool) (us : List Facts) (u : Facts) (n : ℕ) → n ≡ at_most (length (filter test us)) → test u ≡ true
    → min (n + 1) (2 ^ 64 - 1) ≡ at_most (length (filter test (us ++ u ∷ [])))
units-more test us u n is holds =
    at-more n 1 (length (filter test us)) (length (filter test (u ∷ []))) is (ap at_most (sym (ap length (one-in test u holds))))
    ∙ ap at_most (sym (count-append test us (u ∷ [])))

-- of one unit
one-accepted : (left : Left) (bytes : List ℕ) (u : Facts) → is_accepted bytes u ≡ true → touches_in left bytes (u ∷ []) ≡ length (filter (takes_left left) (changes bytes (between u.start u.stop)))
one-accepted left bytes u holds =
    ap (λ (cs : List Change). length (filter (takes_left left) cs)) (append-nil (unit_changes bytes u) ∙ cond-true (is_accepted bytes u) (changes bytes (between u.start u.stop)) [] holds)

pub one-refused : (left : Left) (bytes : List ℕ) (u : Facts) → is_accepted bytes u ≡ false → touches_in left bytes (u ∷ []) ≡ 0
one-refused left bytes u fails =
    ap (λ (cs : List Change). length (filter (takes_left left) cs)) (append-nil (unit_changes bytes u) ∙ cond-false (is_accepted bytes u) (changes bytes (between u.start u.stop)) [] fails)

pub touches-append : (left : Left) (bytes : List ℕ) (us vs : List Facts) → touches_in left bytes (us ++ vs) ≡ touches_in left bytes us + touches_in left bytes vs
touches-append left bytes us vs =
    ap (λ (cs : List Change). length (filter (takes_left left) cs)) (flat_map-append (unit_changes bytes) us vs) ∙ count-append (takes_left left) (changes_in bytes us) (changes_in bytes vs)

-- the groups of one that can be undone by itself
pub judged-ok : {A : Type 0} (bytes : List ℕ) (unit : given.Unit A) (index : Index A) → IsJudged bytes unit → unit.groups ≡ Ok index
    → IsAccepted bytes (between unit.facts.start unit.facts.stop) × (index_bytes index ≡ bytes) × (index_selection index ≡ between unit.facts.start unit.facts.stop)
judged-ok bytes unit index judged is = subst (λ (r : Result (Index _) Fault). AreGroups bytes (between unit.facts.start unit.facts.stop) r) is judged

pub seen-accepted : {A : Type 0} (left : Left) (choice : Choice) (bytes : List ℕ) (us : List Facts) (u : Facts) (n more : ℕ) (old new : Looked A)
    → fault bytes (between u.start u.stop) ≡ None → AreSeen choice bytes us n old
    → more ≡ at_most (length (filter (takes_left left) (changes bytes (between u.start u.stop))))
    → new.units ≡ min (old.units + 1) (2 ^ 64 - 1) → new.touched ≡ min (old.touched + more) (2 ^ 64 - 1) → new.unknown ≡ old.unknown → new.apart ≡ old.apart
    → AreSeen choice bytes (us ++ u ∷ []) (n + touches_in left bytes (u ∷ [])) new
seen-accepted left choice bytes us u n more old new accepted are counted units-are touched-are unknown-are apart-are =
    let holds : is_accepted bytes u ≡ true = ap is_none accepted in record {
      units = units-are ∙ units-more (is_accepted bytes) us u old.units are.units holds;
      touched = touched-are ∙ at-more old.touched more n (touches_in left bytes (u ∷ [])) are.touched (counted ∙ ap at_most (sym (one-accepted left bytes u holds)));
      unknown = ap (λ v. v.items) unknown-are ∙ are.unknown ∙ ap starts (sym (one-out (may_concern choice bytes) us u (ap (λ b. not b && not (leaves_alone choice bytes u)) holds)));
      apart = ap (λ v. v.items) apart-are ∙ are.apart ∙ ap starts (sym (one-out (is_apart choice bytes) us u (ap (λ b. not b && leaves_alone choice bytes u) holds)));
    }

-- ---- on the way through the units of a log

-- what was seen is of some units, which with those that are left make up all; counted says how many left rows units take
pub record IsLooking {A : Type 0} (counted : List Facts → ℕ) (choice : Choice) (bytes : List ℕ) (all : List Facts) (looked : Looked A) (left : List Facts) : Type 0 where
  pub done : List Facts
  pub whole : done ++ left ≡ all
  pub are : AreSeen choice bytes done (counted done) looked

pub looking-none : {A : Type 0} (counted : List Facts → ℕ) (choice : Choice) (bytes : List ℕ) (all left : List Facts) (looked : Looked A) → counted [] ≡ 0 → left ≡ all → AreSeen choice bytes [] 0 looked
    → IsLooking counted choice bytes all looked left
looking-none counted choice bytes all left looked none same are =
    record { done = []; whole = same; are = subst (λ (n : ℕ). AreSeen choice bytes [] n looked) (sym none) are }

pub looking-on : {A : Type 0} (counted : List Facts → ℕ) (choice : Choice) (bytes : List ℕ) (all : List Facts) (looked new : Looked A) (u : Facts) (left rest : List Facts) (n : ℕ)
    → (s : IsLooking counted choice bytes all looked left) → left ≡ u ∷ rest → n ≡ counted (s.done ++ u ∷ []) → AreSeen choice bytes (s.done ++ u ∷ []) n new → IsLooking counted choice bytes all new rest
looking-on counted choice bytes all looked new u left rest n s first many is = record {
  done = s.done ++ u ∷ [];
  whole = append_assoc s.done (u ∷ []) rest ∙ ap (λ (xs : List Facts). s.done ++ xs) (sym first) ∙ s.whole;
  are = subst (λ (m : ℕ). AreSeen choice bytes (s.done ++ u ∷ []) m new) many is;
}

pub looking-end : {A : Type 0} (counted : List Facts → ℕ) (choice : Choice) (bytes : List ℕ) (all : List Facts) (looked : Looked A) (left : List Facts)
    → IsLooking counted choice bytes all looked left → left ≡ [] → AreSeen choice bytes all (counted all) looked
looking-end counted choice bytes all looked left s none =
    let done : s.done ≡ all = sym (append-nil s.done) ∙ ap (λ (xs : List Facts). s.done ++ xs) (sym none) ∙ s.whole in
    subst (λ (us : List Facts). AreSeen choice bytes us (counted us) looked) done s.are
