use Rattle.std.proofs.Common.{◌≡◌, Some, map, option_map, refl, slice_get, sym, ap, arith, ◌∙◌}
use Rattle.std.proofs.lemmas.Option.{slice_get-get_or, slice_get-map}
use Rattle.blog_split.specs.code.Marks.{event_told}
use Rattle.blog_split.proofs.Marks.{numbered-first}
use Rattle.blog_split.proofs.cut_events.CutEvents.map.Goals as goal

pub returns-clause-first : goal.returns-clause-first
returns-clause-first g c =
    let before = c.args.self.now in
    let n = c.index-n.result.now in
    let number : slice_get before.used.items before.given ≡ Some n = slice_get-get_or before.used.items before.given n (omega (arith, c.requires.some)) ∙ ap Some (sym c.index-n.ensures) in
    let here : slice_get (map event_told before.maps.items) n ≡ Some (event_told c.index.result.now) =
    slice_get-map event_told before.maps.items n
    ∙ ap (option_map event_told) (slice_get-get_or before.maps.items n c.index.result.now (omega (arith, c.requires.sound.used before.given n (omega (arith, c.requires.some)), c.index-n.ensures)) ∙ ap Some (sym c.index.ensures)) in
    record { first = rw (numbered-first (map event_told before.maps.items) before.used.items before.given n (event_told c.index.result.now) number here) refl }
