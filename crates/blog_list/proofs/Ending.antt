-- How the units of a log end, by those that are left.
use Rattle.std.proofs.Common.{◌≡◌, Bool, true, false, List, [], ◌∷◌, ℕ, Option, Some, None, refl, sym, ap, ◌∙◌}
use Rattle.std.specs.Prelude.{not, ◌||◌}
use Rattle.std.specs.List.{list_any}
use Rattle.std.proofs.lemmas.Bool.{cond-true, cond-false}
use Rattle.blog_units.specs.Units.{Facts}
use Rattle.blog_list.specs.Shown.{is_open, last_whole}
use Rattle.blog_request.specs.Wanted.{is_before}

-- the last of these units is whole, or, where there is none, this
abbrev whole_behind : Bool → List Facts → Bool
whole_behind whole [] = whole
whole_behind whole (u ∷ us) = whole_behind u.whole us

twice : (b : Bool) → not (not b) ≡ b
twice true = refl
twice false = refl

open-more : (u : Facts) (us : List Facts) → not (is_open (u ∷ us)) ≡ whole_behind u.whole us
open-more u [] = twice u.whole
open-more u (v ∷ us) = open-more v us

open-is : (us : List Facts) → whole_behind true us ≡ not (is_open us)
open-is [] = refl
open-is (u ∷ us) = sym (open-more u us)

-- a unit doesn't start in front of the stop
abbrev is_behind : Option ℕ → Facts → Bool
is_behind stop u = not (is_before u.start stop)

-- the units in front of those that are left start in front of the stop, and the last of them is whole, or isn't
pub record IsPassing (all : List Facts) (stop : Option ℕ) (whole : Bool) (left : List Facts) : Type 0 where
  pub passed : list_any (is_behind stop) left ≡ list_any (is_behind stop) all
  pub ends : whole_behind whole left ≡ not (is_open all)

pub passing-none : (all : List Facts) (stop : Option ℕ) (left : List Facts) → left ≡ all → IsPassing all stop true left
passing-none all stop left same = record { passed = ap (list_any (is_behind stop)) same; ends = ap (whole_behind true) same ∙ open-is all }

pub passing-more : (all : List Facts) (stop : Option ℕ) (whole now : Bool) (u : Facts) (left rest : List Facts) → IsPassing all stop whole left → left ≡ u ∷ rest
    → is_before u.start stop ≡ true → now ≡ u.whole → IsPassing all stop now rest
passing-more all stop whole now u left rest passing first before is = record {
  passed = sym (ap (λ (b : Bool). not b || list_any (is_behind stop) rest) before) ∙ sym (ap (list_any (is_behind stop)) first) ∙ passing.passed;
  ends = ap (λ (b : Bool). whole_behind b rest) is ∙ sym (ap (whole_behind whole) first) ∙ passing.ends;
}

-- one isn't in front of the stop
pub passing-stopped : (all : List Facts) (stop : Option ℕ) (whole : Bool) (u : Facts) (left rest : List Facts) → IsPassing all stop whole left → left ≡ u ∷ rest
    → is_before u.start stop ≡ false → None ≡ last_whole stop all
passing-stopped all stop whole u left rest passing first before =
    let some = sym passing.passed ∙ ap (list_any (is_behind stop)) first ∙ ap (λ (b : Bool). not b || list_any (is_behind stop) rest) before in
    sym (cond-true _ _ _ some)

-- none is left
pub passing-end : (all : List Facts) (stop : Option ℕ) (whole : Bool) (left : List Facts) → IsPassing all stop whole left → left ≡ [] → Some whole ≡ last_whole stop all
passing-end all stop whole left passing none =
    let no = sym passing.passed ∙ ap (list_any (is_behind stop)) none in
    ap Some (sym (ap (whole_behind whole) none) ∙ passing.ends) ∙ sym (cond-false _ _ _ no)
