-- What is promised where no change since takes a row with the fingerprint of one that was left.
use Rattle.std.specs.Prelude.{◌≡◌, ◌++◌, true, false, List, map, filter, length}
use Rattle.blog_trans.specs.Changes.{Change}
use Rattle.blog_undo.specs.Mixed.{Marked, is_untouched}
use Rattle.blog_later.specs.Prints.{left_of, takes_left}

-- changes that are selected, and those after them, which aren't
abbrev pub and_later : List Change → List Change → List Marked
and_later selected later = map (λ c. record { change = c; selected = true }) selected ++ map (λ c. record { change = c; selected = false }) later

-- if no later change takes a row by the fingerprints of those that selected ones left, these are untouched
abbrev pub PrintsSuffice : List Change → List Change → Type 0
PrintsSuffice selected later = length (filter (takes_left (left_of selected)) later) ≡ 0 → is_untouched (and_later selected later) ≡ true
