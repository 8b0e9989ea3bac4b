use Rattle.std.proofs.Common.{◌≡◌, ℕ, ◌+◌, ◌++◌, map, vec_len, sym, ap, ◌∙◌, arith}
use Rattle.blog_flash.specs.code.LaidOut.{text_from}
use Rattle.blog_flash.specs.Written.{event_written}
use Rattle.blog_flash.specs.code.WrittenView.{written_told}
use Rattle.blog_flash.proofs.Lengths.{total, end-total}
use Rattle.blog_flash.proofs.Placing.{event-put}
use Rattle.blog_flash.proofs.laid_out.put_events.Goals as goal

pub events-init : goal.events-init
events-init g c =
    let out = c.args.out.now in
    let left = map event_written (g.E.WrittenEvents.to_come c.args.events.now) in
    let here : 0 + vec_len out ≡ vec_len out = omega arith in
    record { can = c.requires.events; text = ap (λ (n : ℕ). out.items ++ text_from n left) here; end = sym (end-total (vec_len out) left); capacity = omega arith }

pub put-requires : goal.put-requires
put-requires g c =
    let next = ap (λ es. total (map event_written es)) c.in-Some.ensures.first in
    record { room = omega (arith, next, c.events.invariant.end, c.events.invariant.capacity, c.requires.room); short = omega (arith, next, c.events.invariant.end, c.requires.short) }

pub events-preserved : goal.events-preserved
events-preserved g c =
    let next = ap (map event_written) c.in-Some.ensures.first in
    record {
      can = c.in-Some.ensures.can;
      text = event-put _ _ (0 + vec_len c.events.out) _ (event_written (written_told c.in-Some.event)) _ c.put.ensures.items (omega (arith, c.put.ensures.len))
          ∙ ap (λ es. c.events.out.items ++ text_from (0 + vec_len c.events.out) es) (sym next) ∙ c.events.invariant.text;
      end = omega (arith, ap total next, c.events.invariant.end, c.put.ensures.len);
      capacity = omega (arith, c.events.invariant.capacity, c.put.ensures.capacity);
    }
