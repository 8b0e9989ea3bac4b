use Rattle.std.proofs.Common.{◌<◌, ◌++◌, length, option_map, option_to_list, sym, ap, ◌∙◌, arith}
use Rattle.blog_pairs.specs.code.TableView.{pair_seen, places_told}
use Rattle.blog_merged.specs.Nets.{nets_of}
use Rattle.blog_merged.proofs.Places.{nets_all, nets_more}
use Rattle.blog_merged.proofs.updates.net_updates.Goals as goal

pub loop-place-preserved : goal.loop-place-preserved
loop-place-preserved g c =
    let ps = places_told c.args.pairs.now in
    let s = option_map pair_seen c.pair.result in
    let within : c.loop-place.place < length ps = omega (arith, c.loop-place-test.true, c.places-place-end.ensures) in
    c.in_ok-put_update.ensures
    ∙ ap (λ cs. cs ++ nets_of (option_to_list s)) c.loop-place.invariant
    ∙ sym (nets_more ps c.loop-place.place s within c.pair.ensures)

pub returns : goal.returns
returns g c = c.loop-place.invariant ∙ nets_all (places_told c.args.pairs.now) c.loop-place.place (omega (arith, c.loop-place-test.false, c.places-place-end.ensures))
