use Rattle.std.proofs.Common.{◌≡◌, ◌+◌, ◌≤◌, length, refl, sym, ap, subst, ◌∙◌, arith, rules}
use Rattle.std.proofs.Math.Bool.{or-false}
use Rattle.std.proofs.lemmas.List.Sorted.{All-permutation, answers_always}
use Rattle.std.proofs.lemmas.Result.{err_from_is_err_and}
use Rattle.std.specs.List.Sorted.{IsSortedByKey, IsStableByKey}
use Rattle.std.specs.Ordering.{nat_cmp}
use Rattle.blog_list.specs.declared.ranking.RankedLine.{RankedLine}
use Rattle.blog_list.proofs.InOrder.{put-broken, put-end, put-left, put-more, put-none, put-nothing}
use Rattle.blog_list.proofs.ranking.Ranking.put_lines.Goals as goal

pub returns-in_err-sort_by_key-clause-beginning : goal.returns-in_err-sort_by_key-clause-beginning
returns-in_err-sort_by_key-clause-beginning g c =
    let p = err_from_is_err_and c.from_residual.result c.from_residual.ensures.1 in
    rw p.1 (put-nothing c.args.self.now _ _)

pub loop-n-init : goal.loop-n-init
loop-n-init g c = record {
  mark = refl;
  inside = All-permutation (λ (e : RankedLine). (e.start ≤ e.end) × (e.end ≤ length c.args.self.now.held.items)) _ _ c.in_ok-sort_by_key.ensures.permutation c.requires;
  put = put-none c.args.self.now.held.items c.args.self.now.held.items c.args.self.now.lines.items c.sort_by_key.new.self.items _ _ refl c.in_ok-sort_by_key.ensures.permutation
      (c.in_ok-sort_by_key.ensures.sorted (λ e. e.fewer) (answers_always _ _ _ (λ f a r q k. search rules)))
      (c.in_ok-sort_by_key.ensures.stable (λ e. e.fewer) (answers_always _ _ _ (λ f a r q k. search rules)));
}

pub returns-in_err-extend_from_slice-clause-beginning : goal.returns-in_err-extend_from_slice-clause-beginning
returns-in_err-extend_from_slice-clause-beginning g c =
    let p = err_from_is_err_and c.from_residual-in_err-extend_from_slice.result c.from_residual-in_err-extend_from_slice.ensures.1 in
    rw p.1 (put-left c.args.self.now _ _ _ _ _ _ _ c.loop-n.invariant.put)

pub returns-in_err-write_full-clause-beginning : goal.returns-in_err-write_full-clause-beginning
returns-in_err-write_full-clause-beginning g c =
    let p = err_from_is_err_and c.from_residual-in_err-write_full.result c.from_residual-in_err-write_full.ensures.1 in
    rw p.1 (put-broken c.args.self.now _ _ c.loop-n.n _ _ _ _ _ _ c.index-line.result.now c.loop-n.invariant.put (omega (arith, c.loop-n-test.true, c.len-n-end.ensures)) c.index-line.ensures (rw c.deref.ensures.value at c.in_ok-extend_from_slice.ensures.items) c.in_err-write_full.ensures.beginning)

pub loop-n-preserved : goal.loop-n-preserved
loop-n-preserved g c = record {
  mark = (rw or-false at c.in_ok-write_full.ensures.mark) ∙ c.loop-n.invariant.mark;
  inside = c.loop-n.invariant.inside;
  put = put-more c.args.self.now.held.items _ _ _ c.loop-n.n _ _ _ _ _ _ _ c.index-line.result.now c.loop-n.invariant.put (omega (arith, c.loop-n-test.true, c.len-n-end.ensures)) c.index-line.ensures (rw c.deref.ensures.value at c.in_ok-extend_from_slice.ensures.items) c.in_ok-write_full.ensures.written;
}

pub returns-clause-text : goal.returns-clause-text
returns-clause-text g c = put-end c.args.self.now _ _ c.loop-n.n _ _ _ _ c.loop-n.invariant.put (omega (arith, c.loop-n-test.false, c.len-n-end.ensures))
