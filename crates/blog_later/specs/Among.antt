-- Changes of others among selected ones, in steps: what units change, one after the other.
use Rattle.std.specs.Prelude.{◌≡◌, ℕ, ◌+◌, Bool, true, false, not, if◌then◌else◌, List, [], ◌∷◌, ◌++◌, map, filter, length}
use Rattle.blog_trans.specs.Changes.{Change}
use Rattle.blog_undo.specs.Mixed.{Marked, is_untouched}
use Rattle.blog_units.specs.Units.{Facts}
use Rattle.blog_later.specs.Later.{touches_in}
use Rattle.blog_later.specs.Prints.{Left, left_by, takes_left}

-- the changes of a unit that are selected, or those of another
pub data Step : Type 0 where
  Selected : (cs : List Change) → Step
  Other : (cs : List Change) → Step

-- they in turn
abbrev pub marked_in : List Step → List Marked
marked_in [] = []
marked_in (Selected cs ∷ ss) = map (λ c. record { change = c; selected = true }) cs ++ marked_in ss
marked_in (Other cs ∷ ss) = map (λ c. record { change = c; selected = false }) cs ++ marked_in ss

-- the selected ones, step by step
abbrev pub selected_in : List Step → List (List Change)
selected_in [] = []
selected_in (Selected cs ∷ ss) = cs ∷ selected_in ss
selected_in (Other cs ∷ ss) = selected_in ss

-- How many of the others take a row that one of the first k of these lists left, by their fingerprints; k grows by each step that is
-- selected.
abbrev pub touches_from : List (List Change) → ℕ → List Step → ℕ
touches_from css k [] = 0
touches_from css k (Selected cs ∷ ss) = touches_from css (k + 1) ss
touches_from css k (Other cs ∷ ss) = length (filter (takes_left (left_by k css)) cs) + touches_from css k ss

-- of all steps: those that take a row which a selected change before them left
abbrev pub touches_among : List Step → ℕ
touches_among ss = touches_from (selected_in ss) 0 ss

-- if there is none, the selected changes are untouched
abbrev pub PrintsAmongSuffice : List Step → Type 0
PrintsAmongSuffice ss = touches_among ss ≡ 0 → is_untouched (marked_in ss) ≡ true

-- ---- of the units of a log, of which some are chosen: those that pass a test

abbrev pub others_of : (Facts → Bool) → List Facts → List Facts
others_of p us = filter (λ u. not (p u)) us

abbrev pub chosen_of : (Facts → Bool) → List Facts → List Facts
chosen_of p us = filter p us

-- from the first chosen one on
abbrev pub from_first : (Facts → Bool) → List Facts → List Facts
from_first p [] = []
from_first p (u ∷ us) = if p u then u ∷ us else from_first p us

-- How many changes of the others take a row by these fingerprints, which are those of the first lists; each chosen unit adds a list.
abbrev pub touches_by : (ℕ → Left) → (Facts → Bool) → List ℕ → ℕ → List Facts → ℕ
touches_by lefts p bytes k [] = 0
touches_by lefts p bytes k (u ∷ us) = if p u then touches_by lefts p bytes (k + 1) us else touches_in (lefts k) bytes (u ∷ []) + touches_by lefts p bytes k us
