use Rattle.std.proofs.Common.{◌≡◌, ℕ, ◌+◌, ◌-◌, arith, get_or, Option, subst, drop, map}
use Rattle.std.proofs.lemmas.Option.{slice_get-get_or}
use Rattle.blog_untouched.specs.Rows.{left_out}
use Rattle.blog_untouched.specs.code.TakersView.{Adds}
use Rattle.blog_untouched.specs.declared.rows.SelectedRow.{SelectedRow}
use Rattle.blog_untouched.specs.declared.rows.SelectedRow.TheVariants.{Inserted}
use Rattle.blog_untouched.specs.declared.rows.Taker.TheVariants.{Selected}
use Rattle.blog_untouched.proofs.First.{next-kept, next-left-out, next-none, nexts-all}
use Rattle.blog_untouched.proofs.Marks.{looked-up, reached-kept, reached-left-out, reached-none, touched-all}
use Rattle.blog_untouched.proofs.Recording.{recorded-all, recorded-order}
use Rattle.blog_untouched.proofs.keeping.kept_changes.Goals as goal

pub row-init : goal.row-init
row-init g c = record {
  reached = reached-none c.args.rows.now c.args.taken.now c.in_ok-marks.marks.items c.with_hasher-takers.result c.new-touched.result.items (omega (arith, c.in_ok-marks.ensures.len)) c.with_hasher-takers.ensures.empty
      c.new-touched.ensures.items;
  next = λ order. next-none c.args.rows.now c.args.taken.now c.in_ok-marks.marks.items c.with_hasher-takers.result c.new-touched.result.items c.with_hasher-takers.ensures.empty c.new-touched.ensures.items order.1;
}

pub row-preserved-in-Continue-branch-4 : goal.row-preserved-in-Continue-branch-4
row-preserved-in-Continue-branch-4 g c =
    let rows = c.args.rows.now in
    let taken = c.args.taken.now in
    let marks = c.row.marks.items in
    let row = c.row.row - 1 in
    let reached = c.row.invariant.reached in
    let within = reached.within in
    let one : c.row.row ≡ row + 1 = omega (arith, c.row-test.true) in
    let r : SelectedRow = get_or rows row (Inserted 0) in
    let there = slice_get-get_or rows row (Inserted 0) (omega (arith, c.row-test.true, within)) in
    let look = looked-up c.add_others.new.takers c.taker_of-by.result c.left.result r c.taker_of-by.ensures c.left.ensures in
    let adds = subst (λ (o : Option ℕ). Adds c.add_others.new.takers o (Selected row) c.add_selected.new.takers) c.taken.ensures c.in_ok-add_selected.ensures in
    let put = c.in_ok-push.ensures.items in
    record {
      reached = reached-left-out rows taken marks c.row.row row c.in_ok-first.first r c.add_others.new.takers c.row.touched.items c.is_none.result c.taker_of-by.result c.row.first c.row.takers c.add_selected.new.takers
          c.in-Some.by c.push.new.self.items reached one (c.in_ok-first.ensures.takers rows marks) c.in_ok-first.ensures.ends there look c.is_none.ensures c.in-Some.is put adds;
      next = λ order. next-left-out rows taken marks c.row.row row c.in_ok-first.first r c.add_others.new.takers c.row.touched.items c.is_none.result c.taker_of-by.result c.row.first c.row.takers reached
          (c.row.invariant.next order) one (c.in_ok-first.ensures.takers rows marks) (c.in_ok-first.ensures.firsts rows marks) order.0 c.in_ok-first.ensures.ends there c.is_none.ensures c.add_selected.new.takers
          c.in-Some.by c.push.new.self.items look c.in-Some.is put adds;
    }

pub row-preserved : goal.row-preserved
row-preserved g c =
    let rows = c.args.rows.now in
    let taken = c.args.taken.now in
    let marks = c.row.marks.items in
    let row = c.row.row - 1 in
    let reached = c.row.invariant.reached in
    let within = reached.within in
    let one : c.row.row ≡ row + 1 = omega (arith, c.row-test.true) in
    let r : SelectedRow = get_or rows row (Inserted 0) in
    let there = slice_get-get_or rows row (Inserted 0) (omega (arith, c.row-test.true, within)) in
    let look = looked-up c.add_others.new.takers c.taker_of-by.result c.left.result r c.taker_of-by.ensures c.left.ensures in
    record {
      reached = reached-kept rows taken marks c.row.row row c.in_ok-first.first r c.add_others.new.takers c.row.touched.items c.is_none.result c.taker_of-by.result c.row.first c.row.takers reached one
          (c.in_ok-first.ensures.takers rows marks) c.in_ok-first.ensures.ends there look c.is_none.ensures c.in_default.is;
      next = λ order. next-kept rows taken marks c.row.row row c.in_ok-first.first r c.add_others.new.takers c.row.touched.items c.is_none.result c.taker_of-by.result c.row.first c.row.takers reached
          (c.row.invariant.next order) one (c.in_ok-first.ensures.takers rows marks) (c.in_ok-first.ensures.firsts rows marks) order.0 c.in_ok-first.ensures.ends there c.is_none.ensures c.in_default.is;
    }

pub returns-clause-marks : goal.returns-clause-marks
returns-clause-marks g c = λ f ms is.
    recorded-all f ms c.args.rows.now c.args.taken.now c.row.marks.items c.row.row is (omega (arith, c.row-test.false)) c.row.invariant.reached.marked

pub returns-clause-left_out : goal.returns-clause-left_out
returns-clause-left_out g c =
    let none : c.row.row ≡ 0 = omega (arith, c.row-test.false) in
    subst (λ (n : ℕ). map (λ t. t.row) c.row.touched.items ≡ left_out n (drop n c.row.marks.items)) none c.row.invariant.reached.out

pub returns-clause-touched : goal.returns-clause-touched
returns-clause-touched g c = touched-all c.args.rows.now c.args.taken.now c.row.marks.items c.row.row c.row.touched.items c.row.invariant.reached.why

pub returns-clause-next : goal.returns-clause-next
returns-clause-next g c = λ f ms is.
    nexts-all c.args.rows.now c.args.taken.now c.row.marks.items c.row.row c.row.touched.items (c.row.invariant.next (recorded-order f ms c.args.rows.now c.args.taken.now is)).nexts
