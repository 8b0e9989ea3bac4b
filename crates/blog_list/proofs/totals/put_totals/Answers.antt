use Rattle.std.proofs.Common.{List, ℕ}
use Rattle.std.proofs.lemmas.Result.{on_ok_weaker}
use Rattle.blog_text.proofs.Growing.{both-parts}
use Rattle.blog_list.proofs.totals.put_totals.Goals as goal

pub returns : goal.returns
returns g c =
    let old : List ℕ = c.args.out.now.items in
    let one : List ℕ = c.put_numbered.new.out.items in
    let two : List ℕ = c.put_numbered-2.new.out.items in
    let three : List ℕ = c.put_numbered-3.new.out.items in
    let four : List ℕ = c.put_text.new.out.items in
    let five : List ℕ = c.put_line_unless_0.new.out.items in
    let new : List ℕ = c.put_line_unless_0-2.new.out.items in
    on_ok_weaker c.put_line_unless_0-2.result
    (λ last. both-parts old one new _ _ c.in_ok-put_numbered.ensures (both-parts one two new _ _ c.in_ok-put_numbered-2.ensures
    (both-parts two three new _ _ c.in_ok-put_numbered-3.ensures (both-parts three four new _ _ c.in_ok-put_text.ensures
    (both-parts four five new _ _ c.in_ok-put_line_unless_0.ensures last)))))
    c.put_line_unless_0-2.ensures
