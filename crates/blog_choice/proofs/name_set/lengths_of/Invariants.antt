use Rattle.std.proofs.Common.{◌≡◌, ℕ, length, drop}
use Rattle.std.specs.Prelude.{◌==◌, ◌||◌}
use Rattle.std.specs.List.{list_any}
use Rattle.blog_choice.specs.code.Sets.{words_of}
use Rattle.blog_choice.proofs.name_set.lengths_of.Given as goal

-- the lengths so far, and those of the words that are left, are those of all
abbrev pub invariant-loop-word : goal.invariant-loop-word
invariant-loop-word g l =
    (n : ℕ) → (list_any (λ len. len == n) l.lengths.items || list_any (λ word. length word == n) (words_of (drop l.word-index l.words)))
    ≡ list_any (λ word. length word == n) (words_of l.words)
