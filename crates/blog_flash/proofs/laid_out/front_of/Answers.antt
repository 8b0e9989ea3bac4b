use Rattle.std.proofs.Common.{ℕ, take, sym, ap₂, List, arith}
use Rattle.blog_flash.proofs.LayingOut.{index-opened, first-end, front-any}
use Rattle.blog_flash.proofs.laid_out.front_of.Goals as goal

pub returns-clause-any : goal.returns-clause-any
returns-clause-any g c ts =
    let opened = index-opened c.args.index.now in
    let first = first-end opened c.first.result (rw c.log.ensures.bytes at c.first.ensures.event) in
    front-any opened ts _ (rw (sym c.requires) (λ i. omega (arith, c.type_inv.bytes i))) (ap₂ (λ (n : ℕ) (own : List ℕ). take n own) (sym first) c.requires)
