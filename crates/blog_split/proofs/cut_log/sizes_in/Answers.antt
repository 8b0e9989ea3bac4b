use Rattle.std.proofs.Common.{◌<◌, arith, subst}
use Rattle.blog_event.specs.File.{end_of}
use Rattle.blog_trans.specs.Groups.{groups}
use Rattle.blog_trans.specs.code.IndexView.{index_bytes, index_selection}
use Rattle.blog_flash.specs.code.LaidOut.{groups_in}
use Rattle.blog_flash.specs.code.Measured.{HasSizes}
use Rattle.blog_split.specs.code.Greedy.{cut_groups}
use Rattle.blog_split.proofs.Splitting.{written-are}
use Rattle.blog_split.proofs.cut_log.sizes_in.Goals as goal

pub returns-in-Some : goal.returns-in-Some
returns-in-Some g c =
    let ts = cut_groups c.args.limit (groups_in c.args.order (groups (index_bytes c.args.index.now) (index_selection c.args.index.now))) in
    let has = subst (λ es. HasSizes c.args.front_len es c.in-Some.sizes) (written-are ts _ c.in_ok-events.ensures.left) c.in-Some.ensures in
    record { short = omega (arith, has.len, has.short); each = has.each }

pub returns : goal.returns
returns g c =
    let ts = cut_groups c.args.limit (groups_in c.args.order (groups (index_bytes c.args.index.now) (index_selection c.args.index.now))) in
    subst (λ es. 4294967295 < end_of c.args.front_len es) (written-are ts _ c.in_ok-events.ensures.left) c.in-None.ensures
