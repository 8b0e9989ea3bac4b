use Rattle.std.proofs.Common.{ℕ, List, ◌++◌, sym, ap, ◌∙◌}
use Rattle.std.proofs.lemmas.Bool.{cond-true, cond-false}
use Rattle.std.proofs.lemmas.Result.{on_ok_weaker}
use Rattle.blog_list.specs.Lines.{header}
use Rattle.blog_text.proofs.Growing.{both-parts}
use Rattle.blog_list.proofs.Growing.{in-its-column}
use Rattle.blog_list.proofs.lines.put_header.Goals as goal

pub returns-then-gtids : goal.returns-then-gtids
unfolding header
returns-then-gtids g c =
    let old : List ℕ = c.args.out.now.items in
    let one : List ℕ = c.put_text.new.out.items in
    let two : List ℕ = c.put_heading.new.out.items in
    let three : List ℕ = c.put_text-2.new.out.items in
    let new : List ℕ = c.put_text-then-gtids.new.out.items in
    on_ok_weaker c.put_text-then-gtids.result
    (λ last. both-parts old one new _ _ c.in_ok-put_text.ensures (both-parts one two new _ _ (in-its-column 19 one c.args.times.now.heading.items two c.in_ok-put_heading.ensures)
    (both-parts two three new _ _ c.in_ok-put_text-2.ensures
    (last ∙ ap (λ (rest : List ℕ). three ++ rest) (sym (cond-true _ _ _ c.if-gtids.true))))))
    c.put_text-then-gtids.ensures

pub returns-else-gtids : goal.returns-else-gtids
unfolding header
returns-else-gtids g c =
    let old : List ℕ = c.args.out.now.items in
    let one : List ℕ = c.put_text.new.out.items in
    let two : List ℕ = c.put_heading.new.out.items in
    let three : List ℕ = c.put_text-2.new.out.items in
    let new : List ℕ = c.put_text-else-gtids.new.out.items in
    on_ok_weaker c.put_text-else-gtids.result
    (λ last. both-parts old one new _ _ c.in_ok-put_text.ensures (both-parts one two new _ _ (in-its-column 19 one c.args.times.now.heading.items two c.in_ok-put_heading.ensures)
    (both-parts two three new _ _ c.in_ok-put_text-2.ensures
    (last ∙ ap (λ (rest : List ℕ). three ++ rest) (sym (cond-false _ _ _ c.if-gtids.false))))))
    c.put_text-else-gtids.ensures
