use Rattle.std.proofs.Common.{◌≡◌, ◌≤◌, ◌*◌, ap, ap₂, arith, length, sym, ◌∙◌}
use Rattle.std.proofs.lemmas.List.{length-map}
use Rattle.blog_trans.specs.declared.lists.Entry.{Entry}
use Rattle.blog_event.specs.File.{Placed}
use Rattle.blog_trans.specs.Groups.{groups, placed_groups}
use Rattle.blog_trans.specs.Shown.{shown}
use Rattle.blog_trans.specs.code.IndexView.{index_bytes, index_groups, index_selection}
use Rattle.blog_flash.specs.Texts.{laid_out_after}
use Rattle.blog_flash.specs.code.LaidOut.{groups_in}
use Rattle.blog_flash.proofs.Lengths.{laid-out-length}
use Rattle.blog_flash.proofs.Source.{source-format}
use Rattle.blog_flash.proofs.Totals.{groups-fit-room, no-longer}
use Rattle.blog_split.specs.code.Greedy.{cut_groups}
use Rattle.blog_split.proofs.Bounds.{cut-each, cut-total, rows-in-order, rows-shown}
use Rattle.blog_split.proofs.Measuring.{groups-among, most-in-order}
use Rattle.blog_split.proofs.cut_log.bound.Goals as goal

pub returns : goal.returns
unfolding groups shown
returns g c order limit =
    let index = c.args.index.now in
    let bytes = index_bytes index in
    let sel = index_selection index in
    let ts = groups_in order (groups bytes sel) in
    let most = c.most_of.result in
    let n = c.largest-largest.result in
    let events = length (shown bytes sel) in
    let (format, rest, first, served) = source-format bytes sel index.accepted in
    let few = most-in-order order most (groups bytes sel) (groups-among most (index_groups index) c.most_of.ensures) in
    let small = groups-fit-room bytes sel order 0 n (omega (arith, c.largest-largest.ensures)) in
    let more = cut-total limit most n events ts few small (omega (arith, rows-in-order order (groups bytes sel), rows-shown (placed_groups bytes sel))) in
    let before = laid-out-length format ts in
    let after = laid-out-length format (cut_groups limit ts) in
    let kept = no-longer order bytes sel format rest index.accepted first in
    let text = ap (λ es. length (laid_out_after es (cut_groups limit ts))) first in
    let shows : events ≡ length c.entries.result.now =
    sym (length-map (shown bytes sel) (λ (p : Placed). p.pos)) ∙ sym (ap length c.entries.ensures.ats) ∙ length-map c.entries.result.now (λ (e : Entry). e.at) in
    let product : events * (most.maps * n) ≡ c.in_ok-repeated.repeated = ap₂ ◌*◌ shows (sym c.in_ok-maps.ensures.1) ∙ sym c.in_ok-repeated.ensures.1 in
    record {
      short = omega (arith, text, before, after, kept, more, product, c.in_ok-len.ensures.1, ap length c.bytes.ensures.bytes, ap length c.log.ensures.bytes, c.if-len.false);
      each = cut-each limit n ts small;
    }
