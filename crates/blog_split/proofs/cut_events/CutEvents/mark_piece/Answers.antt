use Rattle.std.proofs.Common.{◌≡◌, ◌∷◌, length, map, take, drop, refl, ap, subst, arith, ◌∙◌}
use Rattle.std.proofs.lemmas.List.{length-map}
use Rattle.blog_flash.specs.Written.{Written, Changes}
use Rattle.blog_split.specs.code.CutView.{maps_left}
use Rattle.blog_split.specs.code.CutWritten.{AreApart, rows_among}
use Rattle.blog_split.specs.code.Marks.{AreListed, event_told}
use Rattle.blog_split.proofs.CutWritten.{rows-more}
use Rattle.blog_split.proofs.Going.{added-one, can-go-on, ends, fewer-rows, gets, gets-more, goes-on, is-some, neither-is, next-has-id, room-as-asked, rows_open, skips-ahead}
use Rattle.blog_split.proofs.Adding.{no-bytes}
use Rattle.blog_split.proofs.Marks.{marks-more, marks-none}
use Rattle.blog_split.proofs.cut_events.CutEvents.mark_piece.Goals as goal

pub events-init : goal.events-init
events-init g c =
    let before = c.args.self.now in
    record {
      limit = refl;
      events = refl;
      maps = refl;
      most = refl;
      given = refl;
      sorted = c.requires.sorted;
      can = c.requires.sound.ahead;
      counted = c.requires.sound.counted;
      next = c.requires.sound.next;
      can_be_cut = rw (c.requires.open, c.requires.no_rows) (rw (c.requires.open, c.requires.no_rows) at c.requires.sound.can_be_cut);
      marks = rw (c.requires.no_rows, c.requires.no_marks) (marks-none (map event_told before.maps.items));
      bytes = rw c.requires.no_rows (omega (arith, no-bytes (map event_told before.maps.items)));
      cut = rw (c.requires.open, c.requires.no_rows) refl;
      some = λ none. c.requires.next;
      none_last = λ none. c.requires.open;
    }

pub events-preserved : goal.events-preserved
events-preserved g c =
    let before = c.args.self.now in
    let cut = c.events.self in
    let kept = c.events.invariant in
    let to_come = g.E.WrittenEvents.to_come in
    let own = map event_told before.maps.items in
    let ws = to_come before.events in
    let piece = rows_among (take cut.rows ws) in
    let joining = c.in-Some.joining in
    let rows = joining.rows in
    let on = c.in-Some.ensures in
    let others = to_come cut.ahead in
    let (w, first, (r, is, known)) = rw on.next at kept.next in
    let rest : drop cut.rows ws ≡ Changes r rows.last ∷ others = first ∙ ap (λ (v : Written). v ∷ others) is in
    let more = rows-more cut.rows ws r rows.last others rest kept.counted in
    let (long, room, can) = can-go-on before.most own cut.rows r rows.last others (rw (on.same_statement, rest) at kept.can_be_cut) in
    let added = added-one own cut.ids.items piece cut.used.items cut.flags.items r rows on.comes.found joining.map kept.marks cut.flagged
    (subst (λ m. AreApart (map event_told m.items)) kept.maps cut.apart)
    (record { all = subst (λ m. AreListed (map event_told m.items) cut.ids.items) kept.maps cut.listed; ordered = cut.ordered kept.sorted })
    long known on.comes.bytes on.comes.is_found on.comes.is_new in
    let bytes = gets-more own piece r rows joining.map known added in
    record {
      limit = kept.limit;
      events = kept.events;
      maps = kept.maps;
      most = kept.most;
      given = kept.given;
      sorted = kept.sorted;
      can = c.skip_event-self.ensures.can;
      counted = more.1;
      next = rw more.2 (skips-ahead to_come cut.ahead c.skip_event-self.new.self c.skip_event-self.result c.skip_event-self.ensures.first);
      can_be_cut = rw more.2 can;
      marks = rw (more.0, c.mark.ensures.items) (marks-more own piece r cut.used.items joining.map kept.marks added);
      bytes = rw more.0 (omega (arith, kept.bytes, bytes, rw kept.maps at on.rest));
      cut = kept.cut ∙ rw (on.same_statement, rest, more.0, more.2) (goes-on before.limit own piece r rows.last others
          (room-as-asked before.limit c.events.left cut.rows (gets own rows joining.map) own piece r kept.counted (omega arith) kept.bytes bytes ∙ rw kept.maps at on.room));
      some = λ none. absurd (omega (arith, none));
      none_last = λ none. absurd (omega (arith, none));
    }

pub overflow_add-self : goal.overflow_add-self
overflow_add-self g c =
    let before = c.args.self.now in
    let cut = c.events.self in
    let kept = c.events.invariant in
    let joining = c.in-Some.joining in
    let on = c.in-Some.ensures in
    let (w, first, (r, is, known)) = rw on.next at kept.next in
    let rest : drop cut.rows (g.E.WrittenEvents.to_come before.events) ≡ Changes r joining.rows.last ∷ g.E.WrittenEvents.to_come cut.ahead = first ∙ ap (λ (v : Written). v ∷ g.E.WrittenEvents.to_come cut.ahead) is in
    let (long, room, can) = can-go-on before.most (map event_told before.maps.items) cut.rows r joining.rows.last (g.E.WrittenEvents.to_come cut.ahead) (rw (on.same_statement, rest) at kept.can_be_cut) in
    omega (arith, room, before.few_rows)

pub returns-clause-sound : goal.returns-clause-sound
returns-clause-sound g c =
    let before = c.args.self.now in
    let cut = c.events.self in
    let kept = c.events.invariant in
    record {
      events = rw kept.events c.requires.sound.events;
      ahead = kept.can;
      counted = rw kept.events kept.counted;
      next = rw kept.events kept.next;
      can_be_cut = rw (kept.events, kept.most, kept.maps) (fewer-rows before.most (maps_left cut.is_last before.maps.items) 0 (rows_open cut.is_last cut.rows) (drop cut.rows (g.E.WrittenEvents.to_come before.events)) (omega arith) kept.can_be_cut);
      used = λ n d within. omega (arith, kept.marks.within n d within, length-map before.maps.items event_told, ap (λ m. length m.items) kept.maps);
    }

pub returns-clause-first : goal.returns-clause-first
returns-clause-first g c =
    let before = c.args.self.now in
    let cut = c.events.self in
    let kept = c.events.invariant in
    let own = map event_told before.maps.items in
    let ws = g.E.WrittenEvents.to_come before.events in
    let piece = rows_among (take cut.rows ws) in
    let rest = drop cut.rows ws in
    let stops = c.in_default.ensures in
    record {
      limit = kept.limit;
      events = kept.events;
      maps = kept.maps;
      given = kept.given;
      some = is-some cut.rows cut.is_last cut.next kept.some kept.none_last (λ rows opened next. let (number, comes, full) = stops rows opened next in neither-is _ _ full);
      marks = kept.marks;
      cut = kept.cut ∙ ends before.limit c.events.left cut.rows cut.is_last own piece cut.next rest (g.E.WrittenEvents.to_come cut.ahead) kept.next kept.counted kept.bytes
          (next-has-id before.most _ _ rest kept.can_be_cut) (λ rows r opened next known long.
          let (number, comes, full) = stops rows opened next in (
            number,
            added-one own cut.ids.items piece cut.used.items cut.flags.items r rows comes.found number kept.marks cut.flagged (subst (λ m. AreApart (map event_told m.items)) kept.maps cut.apart)
                (record { all = subst (λ m. AreListed (map event_told m.items) cut.ids.items) kept.maps cut.listed; ordered = cut.ordered kept.sorted })
                long known comes.bytes comes.is_found comes.is_new,
            rw kept.maps at full,
          ));
    }
