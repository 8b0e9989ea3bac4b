use Rattle.std.proofs.Common.{ℕ, ◌+◌, ◌++◌, List, [], map, sym, ap, subst, ◌∙◌, arith}
use Rattle.std.specs.List.{AllByRecursion}
use Rattle.std.proofs.Math.Bool.{or-false}
use Rattle.std.proofs.lemmas.Result.{err_from_is_err_and, on_ok_weaker, on_err_weaker}
use Rattle.blog_device.specs.Devices.{AppendsBeginning}
use Rattle.blog_device.specs.Watched.{device_of}
use Rattle.blog_event.specs.Event.{Event, event_size}
use Rattle.blog_event.specs.File.{end_of}
use Rattle.blog_flash.specs.Written.{Written, event_written}
use Rattle.blog_flash.specs.code.WrittenView.{written_told}
use Rattle.blog_flash.proofs.Lengths.{end-total}
use Rattle.blog_flash.proofs.WritingOut.{IsOnTheWay}
use Rattle.blog_sql.specs.Changed.{changed}
use Rattle.blog_sql.specs.code.Walk.{HasRoom, left_of}
use Rattle.blog_sql.proofs.Whole.{way-prints, way-begun, way-closed}
use Rattle.blog_sql.proofs.written_sql.put_events.Goals as goal

pub put-requires-clause-short : goal.put-requires-clause-short
put-requires-clause-short g c =
    let how = c.args.how.now in
    let rest = g.E.WrittenEvents.to_come c.next_event.new.self in
    let w = changed how (written_told c.in-Some.event) in
    let next = ap (λ (ws : List Written). end_of c.events.out.pos (map event_written (map (changed how) ws))) c.in-Some.ensures.first in
    let end = end-total (c.events.out.pos + event_size (event_written w)) (map event_written (map (changed how) rest)) in
    omega (arith, next, end, c.events.invariant.short)

pub events-preserved : goal.events-preserved
events-preserved g c =
    let how = c.args.how.now in
    let first = ap (map (changed how)) c.in-Some.ensures.first in
    let next = ap (λ (ws : List Written). map event_written (map (changed how) ws)) c.in-Some.ensures.first in
    let room = subst (AllByRecursion (λ (e : Event). HasRoom (event_size e) c.args.out.now)) next c.events.invariant.room in
    let rest = map event_written (map (changed how) (g.E.WrittenEvents.to_come c.next_event.new.self)) in
    record {
      can = c.in-Some.ensures.can;
      way = way-prints _ _ _ _ c.events.out c.put.new.self _ _ _ c.events.invariant.way first c.in_ok-put.ensures.prints;
      keeps = λ n had. c.in_ok-put.ensures.room n (c.events.invariant.keeps n had);
      room = room.1;
      short = let moved = ap (λ (n : ℕ). end_of n rest) c.in_ok-put.ensures.pos in let before = ap (end_of c.events.out.pos) next in omega (arith, moved, before, c.events.invariant.short);
      mark = (rw or-false at c.in_ok-put.ensures.mark) ∙ c.events.invariant.mark;
    }

pub returns-in_err-put-clause-beginning : goal.returns-in_err-put-clause-beginning
returns-in_err-put-clause-beginning g c =
    let how = c.args.how.now in
    let has = g.W.Write.contents (device_of c.events.writer) in
    let now = g.W.Write.contents (device_of c.put.new.writer) in
    let p = err_from_is_err_and c.from_residual.result c.from_residual.ensures.1 in
    let first = ap (map (changed how)) c.in-Some.ensures.first in
    let rest = map (changed how) (g.E.WrittenEvents.to_come c.next_event.new.self) in
    let broken = subst (λ (ws : List Written). AppendsBeginning has now (c.events.out.chunk.items ++ left_of c.events.out ws)) (sym first) (c.in_err-put.ensures.beginning rest) in
    rw p.1 (way-begun _ has now _ _ c.events.invariant.way broken)

pub returns-clause-adds : goal.returns-clause-adds
returns-clause-adds g c =
    let how = c.args.how.now in
    let had = g.W.Write.contents (device_of c.args.writer.now) in
    let has = g.W.Write.contents (device_of c.events.writer) in
    let out = c.events.out in
    let none = ap (map (changed how)) c.in_default.ensures.first.0 in
    let way = subst (λ (ws : List Written). IsOnTheWay had has (c.args.out.now.chunk.items ++ left_of c.args.out.now (map (changed how) (g.E.WrittenEvents.to_come c.args.events.now))) (out.chunk.items ++ left_of out ws)) none c.events.invariant.way in
    on_ok_weaker c.close.result (λ closes. way-closed had has _ c.args.out.now.chunk.items out.chunk.items _ _ (left_of out []) way closes) c.close.ensures.adds

pub returns-clause-beginning : goal.returns-clause-beginning
returns-clause-beginning g c =
    let how = c.args.how.now in
    let had = g.W.Write.contents (device_of c.args.writer.now) in
    let has = g.W.Write.contents (device_of c.events.writer) in
    let out = c.events.out in
    let none = ap (map (changed how)) c.in_default.ensures.first.0 in
    let way = subst (λ (ws : List Written). IsOnTheWay had has (c.args.out.now.chunk.items ++ left_of c.args.out.now (map (changed how) (g.E.WrittenEvents.to_come c.args.events.now))) (out.chunk.items ++ left_of out ws)) none c.events.invariant.way in
    on_err_weaker c.close.result (λ broken. way-begun had has _ _ (out.chunk.items ++ left_of out []) way broken) c.close.ensures.beginning
