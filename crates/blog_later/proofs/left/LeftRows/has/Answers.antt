use Rattle.std.proofs.Common.{ℕ, ◌+◌, ◌*◌, Bool, ◌&&◌, sym, ap, ap₂, ◌∙◌, arith}
use Rattle.std.specs.Prelude.{length, nat_lt, slice_index_or}
use Rattle.std.proofs.lemmas.Bool.{ltb-true}
use Rattle.std.proofs.lemmas.List.{get_or_default}
use Rattle.blog_later.proofs.Numbered.{found-before, is_found}
use Rattle.blog_later.proofs.left.LeftRows.has.Goals as goal

pub returns-in-Ok : goal.returns-in-Ok
returns-in-Ok g c =
    let at = rw (c.deref.ensures.value, c.from.ensures) at c.binary_search.ensures.position in
    ap (is_found c.args.self.now.rows.items c.args.print c.args.lists) (sym c.in-Ok.is)
    ∙ found-before c.args.self.now.rows.items c.args.print c.args.lists c.binary_search.result (omega (arith, c.ranges.lists.fits)) at c.args.self.now.rows_sorted

pub returns-in-Some : goal.returns-in-Some
returns-in-Some g c =
    let es = c.args.self.now.rows.items in
    let at = rw (c.deref.ensures.value, c.from.ensures) at c.binary_search.ensures.position in
    let there = rw c.deref-in-Err.ensures.value at c.in-Some.ensures.lookup in
    let bound = ap₂ (λ (p k : ℕ). p * 4294967296 + k) c.from.ensures c.from-in-Some.ensures in
    ap₂ ◌&&◌ there.0 (ap₂ nat_lt (there.1 ∙ get_or_default es c.in-Err.n c.in-Some.row.now 0 (ltb-true c.in-Err.n (length es) (sym there.0))) bound)
    ∙ ap (is_found es c.args.print c.args.lists) (sym c.in-Err.is)
    ∙ found-before es c.args.print c.args.lists c.binary_search.result (omega (arith, c.ranges.lists.fits)) at c.args.self.now.rows_sorted

pub returns-in-None : goal.returns-in-None
returns-in-None g c =
    let es = c.args.self.now.rows.items in
    let at = rw (c.deref.ensures.value, c.from.ensures) at c.binary_search.ensures.position in
    let gone = rw c.deref-in-Err.ensures.value at c.in-None.ensures.lookup in
    ap (λ (b : Bool). b && nat_lt (slice_index_or es c.in-Err.n 0) (c.args.print * 4294967296 + c.args.lists)) gone.0
    ∙ ap (is_found es c.args.print c.args.lists) (sym c.in-Err.is)
    ∙ found-before es c.args.print c.args.lists c.binary_search.result (omega (arith, c.ranges.lists.fits)) at c.args.self.now.rows_sorted
