use Rattle.std.proofs.Common.{arith}
use Rattle.std.proofs.lemmas.Option.{slice_get_within}
use Rattle.blog_trans.proofs.EntriesFound.{own_item}
use Rattle.blog_trans.proofs.IndexFacts.{some_at, placed_is}
use Rattle.blog_trans.proofs.groups.Index.event.Goals as goal

pub index-requires : goal.index-requires
index-requires g c = omega (arith, slice_get_within c.args.self.now.entries.items c.args.n c.requires.1.entry c.requires.1.here)

pub event_at-requires : goal.event_at-requires
event_at-requires g c = grind (arith, some_at, own_item)

pub returns-clause-event : goal.returns-clause-event
returns-clause-event g c = grind (arith, placed_is, own_item)
