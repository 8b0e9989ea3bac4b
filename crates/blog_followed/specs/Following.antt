-- Rows that are followed through changes of others, by fingerprints: some rows at first, and then each row that a change leaves which takes a followed one.
use Rattle.std.specs.Prelude.{◌≡◌, ℕ, Bool, true, if◌then◌else◌, List, [], ◌∷◌, ◌++◌, Some, nat_eq}
use Rattle.std.specs.List.{list_all, list_any}
use Rattle.blog_later.specs.Among.{Step, Selected, Other}
use Rattle.blog_merge.specs.Pairs.{Pair, real_row}
use Rattle.blog_merge.specs.Touching.{with_left}
use Rattle.blog_trans.specs.Changes.{Change}
use Rattle.blog_undo.specs.ByRows.{has_print_among}
use Rattle.blog_undo.specs.Mixed.{TableRow, takes}

-- fingerprints after changes of others: each that takes a row with one of them adds that of the row that it leaves
abbrev pub prints_touched : (TableRow → ℕ) → List ℕ → List Change → List ℕ
prints_touched f prints [] = prints
prints_touched f prints (c ∷ cs) = prints_touched f (if has_print_among f (takes c) prints then with_left f c prints else prints) cs

-- of changes of others those that do
abbrev pub touching : (TableRow → ℕ) → List ℕ → List Change → List Change
touching f prints [] = []
touching f prints (c ∷ cs) = if has_print_among f (takes c) prints then c ∷ touching f (with_left f c prints) cs else touching f prints cs

-- the real row of each pair has one of the fingerprints
abbrev pub are_followed : (TableRow → ℕ) → List ℕ → List Pair → Bool
are_followed f prints ps = list_all (λ p. has_print_among f (Some (real_row p)) prints) ps

-- all of some fingerprints are among others
abbrev pub HasPrints : List ℕ → List ℕ → Type 0
HasPrints prints these = (p : ℕ) → list_any (nat_eq p) these ≡ true → list_any (nat_eq p) prints ≡ true

-- the changes of others of steps, in order
abbrev pub others_in : List Step → List Change
others_in [] = []
others_in (Selected cs ∷ ss) = others_in ss
others_in (Other cs ∷ ss) = cs ++ others_in ss
