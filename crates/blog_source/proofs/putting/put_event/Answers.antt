-- The header is put first, then the body behind it.
use Rattle.std.proofs.Common.{◌≡◌, ◌+◌, ◌-◌, ◌++◌, ◌∙◌, ap, arith, drop, length, take, List, ℕ}
use Rattle.std.proofs.lemmas.List.{drop_at, take_at}
use Rattle.blog_source.proofs.Moving.{part-long, put-long, two-long, two-parts}
use Rattle.blog_source.proofs.putting.put_event.Goals as goal

pub returns-clause-front : goal.returns-clause-front
returns-clause-front c =
    let old : List ℕ = c.args.bytes.now in
    let n : ℕ = length c.args.body.now in
    let h : List ℕ = c.copy_from_slice.new.self in
    let b : List ℕ = c.copy_from_slice-2.new.self in
    let header = part-long old h c.args.to _ 19 c.copy_from_slice.ensures.len (omega arith) (omega arith) in
    let one = put-long old h c.args.to (c.args.to + 19 - c.args.to) header (omega arith) (omega arith) in
    let body : length b ≡ n = ap length c.copy_from_slice-2.ensures.after in
    ap (take (c.args.to + (19 + n))) (two-parts old h b c.args.to _ _ n header body (omega arith) (omega arith) c.requires.within)
    ∙ take_at (take c.args.to old ++ (h ++ b)) (drop (c.args.to + (19 + n)) old) (c.args.to + (19 + n)) (two-long old h b c.args.to n header body c.requires.within)
    ∙ (λ i. take c.args.to old ++ ((c.copy_from_slice.ensures.after ∙ c.header_bytes.ensures) i ++ c.copy_from_slice-2.ensures.after i))

pub returns-clause-behind : goal.returns-clause-behind
returns-clause-behind c =
    let old : List ℕ = c.args.bytes.now in
    let n : ℕ = length c.args.body.now in
    let h : List ℕ = c.copy_from_slice.new.self in
    let b : List ℕ = c.copy_from_slice-2.new.self in
    let header = part-long old h c.args.to _ 19 c.copy_from_slice.ensures.len (omega arith) (omega arith) in
    let one = put-long old h c.args.to (c.args.to + 19 - c.args.to) header (omega arith) (omega arith) in
    let body : length b ≡ n = ap length c.copy_from_slice-2.ensures.after in
    ap (drop (c.args.to + (19 + n))) (two-parts old h b c.args.to _ _ n header body (omega arith) (omega arith) c.requires.within)
    ∙ drop_at (take c.args.to old ++ (h ++ b)) (drop (c.args.to + (19 + n)) old) (c.args.to + (19 + n)) (two-long old h b c.args.to n header body c.requires.within)
