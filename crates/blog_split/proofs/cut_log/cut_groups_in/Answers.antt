use Rattle.std.proofs.Common.{ℕ, List, [], refl, sym, ap, subst, arith, IfOk, ◌≡◌, ◌∙◌}
use Rattle.blog_event.specs.File.{AreBytes}
use Rattle.blog_trans.specs.Groups.{groups}
use Rattle.blog_trans.specs.code.IndexView.{index_bytes, index_groups, index_selection}
use Rattle.blog_flash.specs.Written.{Written, groups_written}
use Rattle.blog_flash.specs.code.LaidOut.{groups_in}
use Rattle.blog_flash.specs.code.WrittenGroupsView.{groups_to_come}
use Rattle.blog_flash.proofs.Agreeing.{Chosen}
use Rattle.blog_flash.proofs.Source.{source-groups}
use Rattle.blog_split.specs.code.CutView.{cut_to_come}
use Rattle.blog_split.specs.code.CutWritten.{CanBeCut, cut_written}
use Rattle.blog_split.specs.code.Greedy.{cut_groups}
use Rattle.blog_split.proofs.CutWritten.{cut-of-groups, groups-can-be-cut}
use Rattle.blog_split.proofs.Measuring.{groups-among, groups-in-order, most-in-order}
use Rattle.blog_split.proofs.cut_log.cut_groups_in.Goals as goal

pub new-requires : goal.new-requires
unfolding groups
new-requires g c k =
    let index = c.args.index.now in
    let bytes = index_bytes index in
    let sel = index_selection index in
    let order = c.args.order in
    let are = source-groups bytes sel (subst AreBytes c.requires (λ i. omega (arith, c.type_inv.bytes i))) index.accepted in
    let few = most-in-order order c.most_of.result (groups bytes sel) (groups-among c.most_of.result (index_groups index) c.most_of.ensures) in
    let can = groups-can-be-cut (Chosen bytes sel) c.most_of.result (groups_in order (groups bytes sel)) (groups-in-order order (Chosen bytes sel) (groups bytes sel) are) few in
    ((refl, tt), (tt, (tt, (c.new-ahead.ensures ∙ sym c.new-events.ensures, subst (CanBeCut c.most_of.result [] 0) (sym c.new-events.ensures) can))))

pub returns-clause-left : goal.returns-clause-left
unfolding groups
returns-clause-left g c =
    let index = c.args.index.now in
    let bytes = index_bytes index in
    let sel = index_selection index in
    let order = c.args.order in
    let are = groups-in-order order (Chosen bytes sel) (groups bytes sel) (source-groups bytes sel (subst AreBytes c.requires (λ i. omega (arith, c.type_inv.bytes i))) index.accepted) in
    let cut = ap (cut_written c.args.limit [] []) c.new-events.ensures ∙ cut-of-groups (Chosen bytes sel) c.args.limit (groups_in order (groups bytes sel)) are
    ∙ ap (λ (own : List ℕ). groups_written (cut_groups c.args.limit (groups_in order (groups own sel)))) (sym c.requires) in
    subst (λ (ws : List Written). IfOk c.new.result (λ events. cut_to_come groups_to_come events ≡ ws)) cut c.new.ensures.left
