use Rattle.std.proofs.Common.{map, ap, ◌∙◌}
use Rattle.blog_trans.specs.code.IndexView.{index_groups}
use Rattle.blog_flash.specs.code.LaidOut.{written_in}
use Rattle.blog_flash.proofs.InTurn.{written-in-turn}
use Rattle.blog_flash.proofs.written_events.WrittenGroups.new.Goals as goal

pub returns : goal.returns
returns g c = ap (map (written_in c.args.order)) c.in_turn.ensures ∙ written-in-turn c.args.order (index_groups c.args.index.now)
