use Rattle.std.proofs.Common.{ap, arith, length, sym, ◌∙◌}
use Rattle.blog_trans.specs.Groups.{groups}
use Rattle.blog_trans.specs.code.IndexView.{index_bytes, index_selection}
use Rattle.blog_flash.specs.Texts.{group_events}
use Rattle.blog_flash.specs.code.LaidOut.{groups_in}
use Rattle.blog_flash.proofs.Lengths.{text-end}
use Rattle.blog_split.specs.code.Greedy.{cut_groups}
use Rattle.blog_split.proofs.cut_log.measured.Goals as goal

pub returns-in-Some : goal.returns-in-Some
returns-in-Some g c =
    let ts = cut_groups c.args.limit (groups_in c.args.order (groups (index_bytes c.args.index.now) (index_selection c.args.index.now))) in
    let front = c.args.front.now in
    let fits = c.in-Some.ensures c.args.order c.args.limit in
    let end = sym (text-end front (group_events ts)) ∙ ap length (c.requires.front ts) in
    record { short = omega (arith, end, fits.short); each = fits.each }
