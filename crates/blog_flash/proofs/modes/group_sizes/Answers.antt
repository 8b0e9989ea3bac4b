use Rattle.std.proofs.Common.{length, arith}
use Rattle.blog_trans.specs.code.IndexView.{index_groups}
use Rattle.blog_flash.specs.code.LaidOut.{transactions_of}
use Rattle.blog_flash.proofs.InTurn.{written-end}
use Rattle.blog_flash.proofs.modes.group_sizes.Goals as goal

pub unreachable-requires : goal.unreachable-requires
unreachable-requires g c =
    let ts = transactions_of c.args.order (index_groups c.args.index.now) in
    omega (arith, c.in_default.ensures, written-end (length c.args.front.now) ts _ c.new.ensures, c.requires.short)
