use Rattle.std.proofs.Common.{◌<◌, length, option_map, ap, ◌∙◌, arith}
use Rattle.blog_pairs.specs.code.TableView.{pair_seen, places_told}
use Rattle.blog_merged.proofs.Places.{stay_more, staying_all}
use Rattle.blog_merged.proofs.counts.rows_staying.Goals as goal

pub loop-place-preserved : goal.loop-place-preserved
loop-place-preserved g c =
    let ps = places_told c.args.pairs.now in
    let within : c.loop-place.place < length ps = omega (arith, c.loop-place-test.true, c.places-place-end.ensures) in
    record {
      own = stay_more ps c.loop-place.place c.loop-place.rows c.staying_in-rows.result (option_map pair_seen c.pair.result) within c.pair.ensures c.staying_in-rows.ensures.number c.loop-place.invariant.own;
      few = omega (arith, c.loop-place.invariant.few, c.staying_in-rows.ensures.few);
    }

pub returns : goal.returns
returns g c = c.loop-place.invariant.own ∙ ap length (staying_all (places_told c.args.pairs.now) c.loop-place.place (omega (arith, c.loop-place-test.false, c.places-place-end.ensures)))
