use Rattle.std.proofs.Common.{◌≤◌, List, map, sym, ap, subst, arith}
use Rattle.std.specs.List.{AllByRecursion}
use Rattle.blog_event.specs.Event.{event_size}
use Rattle.blog_flash.specs.code.Measured.{IsLonger}
use Rattle.blog_flash.specs.Written.{Written, event_written}
use Rattle.blog_flash.proofs.Lengths.{total, end-total}
use Rattle.blog_sql.specs.Changed.{changed}
use Rattle.blog_sql.proofs.sizes.sql_sizes.Goals as goal

pub events-init : goal.events-init
events-init g c = record { can = c.requires.events; end = sym (end-total c.args.front_len _); short = c.requires.front; bounded = omega arith; each = λ room small all. all }

pub events-preserved : goal.events-preserved
events-preserved g c =
    let (w, first, is) = c.in-Some.ensures.first in
    let size = c.body_len.ensures w is in
    let next = ap (λ (ws : List Written). map event_written (map (changed c.args.how.now) ws)) first in
    let longer : IsLonger c.events.sizes c.body_len.result c.in_ok-sizes.sizes = c.in_ok-sizes.ensures.longer in
    let bounded = c.in_ok-sizes.ensures.bounded c.events.invariant.bounded in
    record {
      can = c.in-Some.ensures.can;
      end = omega (arith, ap total next, c.events.invariant.end, longer.len, size);
      short = longer.short;
      bounded = bounded;
      each = λ room small all. c.events.invariant.each room (omega (arith, small, longer.largest))
          (subst (AllByRecursion (λ e. event_size e ≤ room)) (sym next) (omega (arith, small, longer.fits, size), all));
    }

pub returns-clause-measures : goal.returns-clause-measures
returns-clause-measures g c =
    let none = ap (λ (ws : List Written). map event_written (map (changed c.args.how.now) ws)) c.in_default.ensures.first.0 in
    record {
      len = omega (arith, ap total none, c.events.invariant.end);
      short = c.events.invariant.short;
      each = c.events.invariant.each c.events.sizes.largest (omega arith) (subst (AllByRecursion (λ e. event_size e ≤ c.events.sizes.largest)) (sym none) tt);
    }
