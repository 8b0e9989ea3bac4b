use Rattle.std.proofs.Common.{drop}
use Rattle.std.specs.List.{flat_map}
use Rattle.blog_net.specs.Net.{update_events}
use Rattle.blog_net.proofs.Appending.{IsLeft}
use Rattle.blog_net.proofs.putting.put_updates.Given as goal

-- the updates from this number on are left
abbrev pub invariant-loop-update : goal.invariant-loop-update
invariant-loop-update g l = IsLeft l.fn.out.items (flat_map update_events l.updates) l.out.items (flat_map update_events (drop l.update-index l.updates))
