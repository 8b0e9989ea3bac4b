use Rattle.std.proofs.Common.{◌≡◌, [], ◌∷◌, ◌++◌, map, arith}
use Rattle.std.proofs.lemmas.List.{length-map, length-take-le, map_push}
use Rattle.blog_split.specs.declared.used_maps.MapId.{MapId}
use Rattle.blog_split.specs.code.Marks.{event_told}
use Rattle.blog_split.proofs.MapIds.{listed-more}
use Rattle.blog_split.proofs.used_maps.push_map.Goals as goal

pub returns-clause-listed : goal.returns-clause-listed
returns-clause-listed g c =
    let old = c.args.maps.now.items in
    let e : MapId = record { id = c.id_of-id.result; number = c.len-number.result } in
    let ids : c.push.new.self.items ≡ c.args.ids.now.items ++ e ∷ [] = rw c.unwrap.ensures at c.push.ensures.items in
    let maps : c.push-2.new.self.items ≡ old ++ c.args.event ∷ [] = rw c.unwrap-2.ensures at c.push-2.ensures.items in
    rw (ids, maps, map_push event_told old c.args.event)
    (listed-more (map event_told old) c.args.ids.now.items (event_told c.args.event) e c.requires.listed
    (record { len = length-take-le 6 c.args.event.body.now c.requires.id; bytes = c.id_of-id.ensures.bytes })
    (omega (arith, c.len-number.ensures, length-map old event_told)) c.id_of-id.ensures.number)
