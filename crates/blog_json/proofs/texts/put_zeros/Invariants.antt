use Rattle.std.proofs.Common.{◌≡◌, ◌++◌, replicate}
use Rattle.blog_json.proofs.texts.put_zeros.Given as goal

-- so many digits as there were rounds
abbrev pub invariant-zeros : goal.invariant-zeros
invariant-zeros g l = l.out.items ≡ l.fn.out.items ++ replicate l._zero 48
