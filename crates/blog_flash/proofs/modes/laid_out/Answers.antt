use Rattle.std.proofs.Common.{List, ℕ, ap₂, ◌∙◌}
use Rattle.blog_event.specs.File.{read}
use Rattle.blog_trans.specs.Groups.{groups}
use Rattle.blog_trans.specs.code.IndexView.{index_groups}
use Rattle.blog_trans.specs.Selection.{Selection}
use Rattle.blog_flash.specs.code.LaidOut.{groups_in, transactions_of}
use Rattle.blog_flash.specs.Texts.{laid_out_after}
use Rattle.blog_flash.proofs.InTurn.{written-text}
use Rattle.blog_flash.proofs.modes.laid_out.Goals as goal

pub returns-clause-text : goal.returns-clause-text
unfolding groups
returns-clause-text g c =
    let ts = transactions_of c.args.order (index_groups c.in_ok-groups.groups) in
    let same = ap₂ (λ (bytes : List ℕ) (own : Selection). laid_out_after (read bytes own.stop) (groups_in c.args.order (groups bytes own))) c.in_ok-groups.ensures.bytes c.in_ok-groups.ensures.selection in
    c.in_ok-lay_out.ensures.text ∙ written-text c.front-front.result.now ts _ c.new.ensures ∙ c.front-front.ensures.any ts ∙ same
