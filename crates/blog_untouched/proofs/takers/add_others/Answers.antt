use Rattle.std.proofs.Common.{◌≡◌, ◌+◌, ◌-◌, ℕ, arith, get_or, subst}
use Rattle.std.proofs.lemmas.Option.{slice_get-get_or}
use Rattle.blog_untouched.specs.code.TakersView.{AreFirst, AreTakers}
use Rattle.blog_untouched.specs.declared.rows.TakenRow.{TakenRow}
use Rattle.blog_untouched.proofs.First.{first-other}
use Rattle.blog_untouched.proofs.Taking.{takers-other}
use Rattle.blog_untouched.proofs.takers.add_others.Goals as goal

pub first-preserved : goal.first-preserved
first-preserved g c =
    let taken = c.args.taken.now in
    let first = c.first.first - 1 in
    let one : c.first.first ≡ first + 1 = omega (arith, c.first-test.true) in
    let none : TakenRow = record { before = 0; print = 0 } in
    let t : TakenRow = get_or taken first none in
    let there = slice_get-get_or taken first none (omega (arith, c.first-test.true, c.first.invariant.within, c.requires)) in
    record {
      within = omega (arith, c.first.invariant.within);
      takers = λ rows marks are. takers-other rows taken marks (c.args.row + 1) first t c.first.takers c.insert.new.self
          (subst (λ (n : ℕ). AreTakers rows taken marks (c.args.row + 1) n c.first.takers) one (c.first.invariant.takers rows marks are)) there (omega (arith, c.if-other-row.false)) c.in_ok-insert.ensures.updates.0;
      firsts = λ rows marks are. first-other rows taken marks (c.args.row + 1) first t c.first.takers c.insert.new.self
          (subst (λ (n : ℕ). AreFirst rows taken marks (c.args.row + 1) n c.first.takers) one (c.first.invariant.firsts rows marks are)) there c.in_ok-insert.ensures.updates.0;
    }
