use Rattle.std.proofs.Common.{◌≤◌, List, ℕ, length, map, refl, sym, ap, ap₂, subst, ◌∙◌, arith}
use Rattle.std.specs.List.{AllByRecursion}
use Rattle.blog_event.specs.Event.{event_size}
use Rattle.blog_device.specs.Watched.{device_of}
use Rattle.blog_event.specs.File.{read}
use Rattle.blog_trans.specs.Groups.{groups}
use Rattle.blog_trans.specs.Selection.{Selection, selection_of}
use Rattle.blog_flash.specs.code.LaidOut.{groups_in, transactions_of}
use Rattle.blog_flash.specs.Runs.{IsWritten, mode_in}
use Rattle.blog_flash.specs.Texts.{laid_out_after}
use Rattle.blog_flash.proofs.Answering.{output-laid, output-written}
use Rattle.blog_trans.specs.code.IndexView.{index_bytes, index_groups, index_selection}
use Rattle.blog_flash.proofs.InTurn.{events-of-written, written-end, written-text}
use Rattle.blog_flash.proofs.Totals.{groups-fit-room}
use Rattle.blog_flash.specs.Written.{event_written}
use Rattle.blog_flash.proofs.runs.write_log.Goals as goal

pub write_out-requires : goal.write_out-requires
unfolding groups
write_out-requires g c k =
    let index = c.in-Ok.groups in
    let ts = transactions_of c.args.order (index_groups index) in
    let es = ap (map event_written) c.new-events.ensures ∙ events-of-written ts in
    let fits = groups-fit-room (index_bytes index) (index_selection index) c.args.order 0 c.largest.result (omega (arith, c.largest.ensures)) in (
      (refl, tt),
      (
        tt,
        record {
          short = omega (arith, written-end (length c.front-front.result.now) ts _ c.new-events.ensures, c.front-front.ensures.short c.args.order);
          each = subst (AllByRecursion (λ e. event_size e ≤ c.largest.result)) (sym es) fits;
        },
      ),
    )

pub returns-clause-written : goal.returns-clause-written
unfolding groups
returns-clause-written g c =
    let sel = selection_of c.args.sel.now in
    let had = g.W.Write.contents (device_of c.args.writer.now) in
    let has = g.W.Write.contents (device_of c.write_out.new.writer) in
    let same = ap₂ (λ (bytes : List ℕ) (own : Selection). laid_out_after (read bytes own.stop) (groups_in c.args.order (groups bytes own))) c.in-Ok.ensures.bytes c.in-Ok.ensures.selection in
    let ts = transactions_of c.args.order (index_groups c.in-Ok.groups) in
    let whole = written-text c.front-front.result.now ts _ c.new-events.ensures ∙ c.front-front.ensures.any ts in
    output-written c.args.bytes.now (mode_in c.args.order) sel had has _ c.write_out.result (output-laid c.args.order c.args.bytes.now sel (λ i. omega (arith, c.type_inv.bytes i)) c.in-Ok.ensures.accepted)
    (subst (λ text. IsWritten had has text c.write_out.result) (whole ∙ same) c.write_out.ensures.written)
