use Rattle.std.proofs.Common.{◌<◌, length, option_map, ap, ◌∙◌, arith}
use Rattle.blog_pairs.specs.code.TableView.{pair_seen, places_told}
use Rattle.blog_merged.proofs.Places.{merged_more, nets_all}
use Rattle.blog_merged.proofs.counts.rows_merged.Goals as goal

pub loop-place-preserved : goal.loop-place-preserved
loop-place-preserved g c =
    let ps = places_told c.args.pairs.now in
    let within : c.loop-place.place < length ps = omega (arith, c.loop-place-test.true, c.places-place-end.ensures) in
    record {
      own = merged_more ps c.loop-place.place c.loop-place.rows c.merged_in-rows.result (option_map pair_seen c.pair.result) within c.pair.ensures c.merged_in-rows.ensures.number c.loop-place.invariant.own;
      few = omega (arith, c.loop-place.invariant.few, c.merged_in-rows.ensures.few);
    }

pub returns : goal.returns
returns g c = c.loop-place.invariant.own ∙ ap length (nets_all (places_told c.args.pairs.now) c.loop-place.place (omega (arith, c.loop-place-test.false, c.places-place-end.ensures)))
