use Rattle.std.proofs.Common.{◌≡◌, length}
use Rattle.std.specs.Cmp.Lexicographic.{slice_cmp}
use Rattle.std.specs.Ordering.{nat_cmp}
use Rattle.std.specs.Str.{str_to_ascii_lowercase}
use Rattle.blog_choice.proofs.name_set.compare.Given as goal

-- what is left compares as the whole
abbrev pub invariant-bytes : goal.invariant-bytes
invariant-bytes l =
    slice_cmp nat_cmp (str_to_ascii_lowercase l.left) (str_to_ascii_lowercase l.right)
    ≡ slice_cmp nat_cmp (str_to_ascii_lowercase l.fn.one) (str_to_ascii_lowercase l.fn.other)

abbrev pub decreases-bytes : goal.decreases-bytes
decreases-bytes l = length l.left
