use Rattle.std.proofs.Common.{refl, arith}
use Rattle.indexmap.specs.IndexMap.{values}
use Rattle.blog_trans.specs.code.StatementMaps.{used_maps}
use Rattle.blog_trans.proofs.EntriesKept.{closed}
use Rattle.blog_trans.proofs.lists.IndexLists.close.Goals as goal

pub returns-clause-kept : goal.returns-clause-kept
returns-clause-kept g c = λ done o ms same holds.
    closed c.args.self.now _ done o (used_maps (values c.args.maps.now)) ms c.in_ok-maps.maps same c.in_ok-maps.ensures.counted c.in_ok-maps.ensures.items refl c.in_ok-push.ensures.items refl refl
    (omega arith) (λ e. omega arith) holds
