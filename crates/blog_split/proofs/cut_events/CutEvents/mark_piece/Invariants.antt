use Rattle.std.proofs.Common.{◌≡◌, ◌-◌, true, false, length, map, take, drop, []}
use Rattle.blog_split.specs.Cuts.{piece_bytes}
use Rattle.blog_split.specs.code.CutView.{HasRows, IsAhead, maps_left}
use Rattle.blog_split.specs.code.CutWritten.{CanBeCut, cut_written, rows_among}
use Rattle.blog_split.specs.code.Marks.{AreMarks, event_told}
use Rattle.blog_split.proofs.Going.{going, rows_open}
use Rattle.blog_split.proofs.cut_events.CutEvents.mark_piece.Given as goal

-- the piece so far, of which the walk ahead has skipped the rows events
abbrev pub invariant-events : goal.invariant-events
invariant-events g l =
    let to_come = g.E.WrittenEvents.to_come in
    let ws = to_come l.fn.self.events in
    let own = map event_told l.fn.self.maps.items in
    let piece = rows_among (take l.self.rows ws) in
    let rest = drop l.self.rows ws in
    record {
      limit : l.self.limit ≡ l.fn.self.limit;
      events : l.self.events ≡ l.fn.self.events;
      maps : l.self.maps ≡ l.fn.self.maps;
      most : l.self.most ≡ l.fn.self.most;
      given : l.self.given ≡ l.fn.self.given;
      sorted : l.self.is_sorted ≡ true;
      can : g.E.WrittenEvents.can_next l.self.ahead;
      counted : length piece ≡ l.self.rows;
      next : IsAhead l.self.next rest (to_come l.self.ahead);
      can_be_cut : CanBeCut l.fn.self.most (maps_left l.self.is_last l.fn.self.maps.items) (rows_open l.self.is_last l.self.rows) rest;
      marks : AreMarks own piece l.self.used.items;
      bytes : l.left ≡ l.fn.self.limit - piece_bytes own piece;
      cut : cut_written l.fn.self.limit own [] ws ≡ going l.fn.self.limit l.self.is_last own piece rest;
      some : l.self.rows ≡ 0 → HasRows l.self;
      none_last : l.self.rows ≡ 0 → l.self.is_last ≡ false;
    }

abbrev pub decreases-events : goal.decreases-events
decreases-events g l = length (drop l.self.rows (g.E.WrittenEvents.to_come l.fn.self.events))
