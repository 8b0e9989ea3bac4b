-- Changes of the units that aren't chosen, behind the first chosen one.
use Rattle.std.proofs.Common.{◌≡◌, ℕ, Bool, true, false, not, List, [], ◌∷◌, ◌++◌, sym, ap, ◌∙◌}
use Rattle.std.specs.Prelude.{if◌then◌else◌}
use Rattle.std.proofs.lemmas.Bool.{cond-false, cond-true}
use Rattle.blog_later.specs.Among.{from_first, others_of}
use Rattle.blog_later.specs.Later.{changes_in, unit_changes}
use Rattle.blog_trans.specs.Changes.{Change}
use Rattle.blog_units.specs.Units.{Facts}

-- whether a chosen one came before
abbrev pub waiting : Bool → (Facts → Bool) → List ℕ → List Facts → List Change
waiting has_begun p bytes us = changes_in bytes (others_of p (if has_begun then us else from_first p us))

others-chosen : (p : Facts → Bool) (u : Facts) (us : List Facts) → p u ≡ true → others_of p (u ∷ us) ≡ others_of p us
others-chosen p u us is = cond-false (not (p u)) (u ∷ others_of p us) (others_of p us) (ap not is)

others-other : (p : Facts → Bool) (u : Facts) (us : List Facts) → p u ≡ false → others_of p (u ∷ us) ≡ u ∷ others_of p us
others-other p u us is = cond-true (not (p u)) (u ∷ others_of p us) (others_of p us) (ap not is)

pub unit-chosen : (p : Facts → Bool) (bytes : List ℕ) (has_begun : Bool) (u : Facts) (left rest : List Facts) → left ≡ u ∷ rest → p u ≡ true → waiting has_begun p bytes left ≡ waiting true p bytes rest
unit-chosen p bytes true u left rest first is = ap (λ (us : List Facts). changes_in bytes (others_of p us)) first ∙ ap (changes_in bytes) (others-chosen p u rest is)
unit-chosen p bytes false u left rest first is =
    ap (λ (us : List Facts). changes_in bytes (others_of p (from_first p us))) first
    ∙ ap (λ (us : List Facts). changes_in bytes (others_of p us)) (cond-true (p u) (u ∷ rest) (from_first p rest) is)
    ∙ ap (changes_in bytes) (others-chosen p u rest is)

pub unit-other : (p : Facts → Bool) (bytes : List ℕ) (has_begun : Bool) (u : Facts) (left rest : List Facts) → left ≡ u ∷ rest → p u ≡ false → has_begun ≡ true
    → waiting has_begun p bytes left ≡ unit_changes bytes u ++ waiting has_begun p bytes rest
unit-other p bytes has_begun u left rest first is begun =
    ap (λ b. waiting b p bytes left) begun
    ∙ ap (λ (us : List Facts). changes_in bytes (others_of p us)) first
    ∙ ap (changes_in bytes) (others-other p u rest is)
    ∙ ap (λ b. unit_changes bytes u ++ waiting b p bytes rest) (sym begun)

pub unit-before : (p : Facts → Bool) (bytes : List ℕ) (has_begun : Bool) (u : Facts) (left rest : List Facts) → left ≡ u ∷ rest → p u ≡ false → has_begun ≡ false
    → waiting has_begun p bytes left ≡ waiting has_begun p bytes rest
unit-before p bytes has_begun u left rest first is begun =
    ap (λ b. waiting b p bytes left) begun
    ∙ ap (λ (us : List Facts). changes_in bytes (others_of p (from_first p us))) first
    ∙ ap (λ (us : List Facts). changes_in bytes (others_of p us)) (cond-false (p u) (u ∷ rest) (from_first p rest) is)
    ∙ ap (λ b. waiting b p bytes rest) (sym begun)

pub none-waiting : (p : Facts → Bool) (bytes : List ℕ) (has_begun : Bool) (left : List Facts) → left ≡ [] → waiting has_begun p bytes left ≡ []
none-waiting p bytes true left none = ap (λ (us : List Facts). changes_in bytes (others_of p us)) none
none-waiting p bytes false left none = ap (λ (us : List Facts). changes_in bytes (others_of p (from_first p us))) none
