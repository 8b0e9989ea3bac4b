use Rattle.std.proofs.Common.{◌+◌, ◌<◌, ℕ, List, length, drop, get_or, ap, subst, arith}
use Rattle.std.proofs.lemmas.List.{drop_all}
use Rattle.std.proofs.lemmas.Option.{slice_get-get_or}
use Rattle.blog_trans.proofs.Turns.{drop-at}
use Rattle.blog_split.proofs.Flags.{AreLeft, left-fewer, left-none}
use Rattle.blog_split.proofs.piece_maps.unmark.Goals as goal

pub loop-number-preserved : goal.loop-number-preserved
loop-number-preserved g c =
    let ns = c.args.used.now.items in
    let i = c.loop-number.number-index in
    let n = get_or ns i 0 in
    let below : i < length ns = omega (arith, c.loop-number-test.true, ap length c.deref-number-items.ensures.value) in
    rw c.deref-number-items.ensures.value
    (left-fewer n (drop (i + 1) ns) c.loop-number.flags (subst (λ (left : List ℕ). AreLeft left c.loop-number.flags) (drop-at ns i n (slice_get-get_or ns i 0 below)) c.loop-number.invariant))

pub returns-clause-flags : goal.returns-clause-flags
returns-clause-flags g c =
    let ns = c.args.used.now.items in
    let all = drop_all c.loop-number.number-index ns (omega (arith, c.loop-number-test.false, ap length c.deref-number-items.ensures.value)) in
    rw c.clear.ensures.items (left-none c.loop-number.flags (subst (λ (left : List ℕ). AreLeft left c.loop-number.flags) all c.loop-number.invariant))
