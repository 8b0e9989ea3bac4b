-- Written logs are no longer than their source.
use Rattle.std.proofs.Common.{◌≤◌, List, length, ℕ, subst, sym}
use Rattle.blog_row.specs.declared.order.Order.{Order}
use Rattle.blog_row.specs.declared.order.Order.TheVariants.{Forward, Backward}
use Rattle.blog_flash.proofs.Agreeing.{Chosen}
use Rattle.blog_flash.proofs.Headline.{is-source, normal-is, flashback-is}
use Rattle.blog_flash.proofs.Totals.{no-longer}
use Rattle.blog_flash.proofs.theorems.written_logs_are_no_longer.Goals as goal

pub returns : goal.returns
returns c bytes sel are accepted =
    let source = is-source bytes sel are accepted in
    let short = λ (order : Order). no-longer order bytes sel source.format source.rest accepted source.read_is in
    let fits : List ℕ → Type 0 = λ text. length text ≤ length bytes in
    record {
      flashback = subst fits (sym (flashback-is (Chosen bytes sel) bytes sel source)) (short Backward);
      normal = subst fits (sym (normal-is (Chosen bytes sel) bytes sel source)) (short Forward);
    }
