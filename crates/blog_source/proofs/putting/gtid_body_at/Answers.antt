-- By how long the body of any Gtid event is.
use Rattle.std.proofs.Common.{◌≤◌, ◌+◌, ◌-◌, List, ℕ, arith, drop, length, subst, sym, take}
use Rattle.std.proofs.lemmas.List.{length-drop, length-take-le}
use Rattle.blog_gtid.proofs.Lengths.{gtid_fits, gtid_least}
use Rattle.blog_source.proofs.putting.gtid_body_at.Goals as goal

pub returns-clause-least : goal.returns-clause-least
returns-clause-least c = subst (λ (text : List ℕ). 25 ≤ length text) (sym c.gtid_body.ensures) (gtid_least _)

pub returns-clause-fits : goal.returns-clause-fits
returns-clause-fits c = λ enough.
    let n : ℕ = c.args.at + c.args.len - c.args.at in
    let body : List ℕ = take n (drop c.args.at c.args.bytes.now) in
    let left = length-drop c.args.at c.args.bytes.now in
    let long = length-take-le n (drop c.args.at c.args.bytes.now) (omega (arith, left, c.requires.within)) in
    let fits = gtid_fits body (omega (arith, long, enough)) in
    subst (λ (text : List ℕ). length text ≤ c.args.len) (sym c.gtid_body.ensures) (omega (arith, fits, long))
