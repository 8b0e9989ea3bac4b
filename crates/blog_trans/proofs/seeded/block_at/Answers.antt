use Rattle.std.proofs.Common.{◌≡◌, ◌-◌, ℕ, List, length, take, drop, ap, ◌∙◌, arith}
use Rattle.std.proofs.lemmas.List.{length-drop, take_all, take_min}
use Rattle.blog_trans.proofs.seeded.block_at.Goals as goal

pub returns : goal.returns
returns c =
    let bytes : List ℕ = c.args.bytes.now in
    let rest : List ℕ = drop c.args.at bytes in
    let whole : take (length bytes - c.args.at) rest ≡ rest = take_all (length bytes - c.args.at) rest (omega (arith, length-drop c.args.at bytes)) in
    rw c.min.ensures (take_min 16 (take (length bytes - c.args.at) rest) ∙ ap (take 16) whole)
