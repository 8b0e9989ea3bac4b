use Rattle.std.proofs.Common.{ℕ, List, ◌++◌, ap, ◌∙◌}
use Rattle.std.specs.Fmt.{decimal}
use Rattle.std.proofs.lemmas.Result.{on_ok_weaker}
use Rattle.blog_text.proofs.Growing.{both-parts}
use Rattle.blog_report.proofs.shell.put_show.Goals as goal

pub returns : goal.returns
returns g c =
    let old : List ℕ = c.args.out.now.items in
    let one : List ℕ = c.put_text.new.out.items in
    let two : List ℕ = c.put_number.new.out.items in
    let three : List ℕ = c.put_text-2.new.out.items in
    let new : List ℕ = c.put_file.new.out.items in
    let number = c.in_ok-put_number.ensures ∙ ap (λ (n : ℕ). one ++ decimal n) c.from.ensures in
    on_ok_weaker c.put_file.result
    (λ last. both-parts old one new _ _ c.in_ok-put_text.ensures (both-parts one two new _ _ number (both-parts two three new _ _ c.in_ok-put_text-2.ensures last)))
    c.put_file.ensures
