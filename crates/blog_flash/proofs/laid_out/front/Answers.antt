use Rattle.std.proofs.Common.{length, sym, ap, ◌∙◌, arith}
use Rattle.blog_trans.specs.Groups.{groups}
use Rattle.blog_trans.specs.code.IndexView.{index_groups}
use Rattle.blog_flash.specs.code.LaidOut.{transactions_of}
use Rattle.blog_flash.specs.Texts.{group_events}
use Rattle.blog_flash.proofs.LayingOut.{index-opened, laid-within}
use Rattle.blog_flash.proofs.Lengths.{text-end}
use Rattle.blog_flash.proofs.laid_out.front.Goals as goal

pub returns-clause-short : goal.returns-clause-short
unfolding groups
returns-clause-short g c order =
    let ts = transactions_of order (index_groups c.args.index.now) in
    let end = sym (text-end _ (group_events ts)) ∙ ap length (c.front_of.ensures.any ts) in
    omega (arith, end, laid-within (index-opened c.args.index.now) order, c.args.index.now.log.short)
