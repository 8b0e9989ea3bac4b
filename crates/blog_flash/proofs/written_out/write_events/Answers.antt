use Rattle.std.proofs.Common.{◌≡◌, ℕ, ◌+◌, ◌≤◌, ◌++◌, map, vec_len, refl, ap, subst, ◌∙◌, arith}
use Rattle.std.specs.Prelude.{vec_capacity}
use Rattle.std.specs.List.{AllByRecursion}
use Rattle.std.proofs.Math.Bool.{or-false}
use Rattle.std.proofs.lemmas.Result.{err_from_is_err_and, on_ok_weaker, on_err_weaker}
use Rattle.blog_event.specs.Event.{event_size}
use Rattle.blog_flash.specs.code.LaidOut.{text_from}
use Rattle.blog_flash.specs.Written.{event_written}
use Rattle.blog_flash.proofs.Lengths.{total, end-total}
use Rattle.blog_flash.proofs.WritingOut.{way-none, way-event, way-broken, way-end}
use Rattle.blog_flash.proofs.written_out.write_events.Goals as goal

pub events-init : goal.events-init
events-init g c =
    let chunk = c.args.chunk.now in
    let left = map event_written (g.E.WrittenEvents.to_come c.args.events.now) in
    let here : 0 + vec_len chunk ≡ vec_len chunk = omega arith in
    record {
      can = c.requires.events;
      way = way-none _ _ _ (ap (λ (n : ℕ). chunk.items ++ text_from n left) here);
      room = c.requires.room;
      short = omega (arith, end-total (vec_len chunk) left, c.requires.short);
      capacity = omega arith;
      mark = refl;
    }

pub returns-in_err-from-clause-beginning : goal.returns-in_err-from-clause-beginning
returns-in_err-from-clause-beginning g c =
    let p = err_from_is_err_and c.from_residual.result c.from_residual.ensures.1 in
    rw p.1 (way-broken _ _ _ _ _ _ c.events.invariant.way c.in_err-from.ensures.beginning)

pub events-preserved : goal.events-preserved
events-preserved g c =
    let next = ap (map event_written) c.in-Some.ensures.first in
    let (part, appended, split) = c.in_ok-from.ensures.written in
    let room = subst (AllByRecursion (λ e. event_size e ≤ vec_capacity c.args.chunk.now)) next c.events.invariant.room in
    record {
      can = c.in-Some.ensures.can;
      way = way-event _ _ _ _ _ _ _ part _ _ _ _ _ _ c.events.invariant.way appended split c.in_ok-from.ensures.from next c.put.ensures.items (omega (arith, c.put.ensures.len));
      room = room.1;
      short = omega (arith, ap total next, c.events.invariant.short, c.in_ok-from.ensures.from, c.put.ensures.len);
      capacity = omega (arith, c.events.invariant.capacity, c.in_ok-from.ensures.capacity, c.put.ensures.capacity);
      mark = (rw or-false at c.in_ok-from.ensures.mark) ∙ c.events.invariant.mark;
    }

pub returns-clause-written : goal.returns-clause-written
returns-clause-written g c =
    let none = ap (λ es. text_from (c.events.from + vec_len c.events.chunk) (map event_written es)) c.in_default.ensures.first.0 in
    on_ok_weaker c.put-2.result (λ written. way-end _ _ _ _ _ _ c.events.invariant.way none (rw c.deref.ensures.value at written)) c.put-2.ensures.written

pub returns-clause-beginning : goal.returns-clause-beginning
returns-clause-beginning g c =
    on_err_weaker c.put-2.result (λ beginning. way-broken _ _ _ _ _ _ c.events.invariant.way (rw c.deref.ensures.value at beginning)) c.put-2.ensures.beginning
