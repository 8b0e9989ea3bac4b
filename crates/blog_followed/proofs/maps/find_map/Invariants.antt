use Rattle.std.proofs.Common.{◌≡◌}
use Rattle.blog_followed.proofs.maps.find_map.Given as goal

abbrev pub invariant-loop-map : goal.invariant-loop-map
invariant-loop-map g l = l.n ≡ l.map-index
