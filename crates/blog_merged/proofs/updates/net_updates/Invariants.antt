use Rattle.std.proofs.Common.{◌≡◌, map, take}
use Rattle.blog_net.specs.Net.{net_change}
use Rattle.blog_pairs.specs.Places.{present}
use Rattle.blog_pairs.specs.code.TableView.{places_told}
use Rattle.blog_merged.specs.Nets.{nets_of}
use Rattle.blog_merged.proofs.updates.net_updates.Given as goal

-- the updates of the places before
abbrev pub invariant-loop-place : goal.invariant-loop-place
invariant-loop-place g l = map net_change l.updates.items ≡ nets_of (present (take l.place (places_told l.pairs)))
