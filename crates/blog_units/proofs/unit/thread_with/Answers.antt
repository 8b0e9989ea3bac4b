use Rattle.std.proofs.Common.{sym, ap, ◌∙◌}
use Rattle.blog_event.specs.Event.{event_of}
use Rattle.blog_units.specs.Units.{is_query_kind}
use Rattle.blog_units.proofs.Threads.{query-has-thread}
use Rattle.blog_units.proofs.unit.thread_with.Goals as goal

pub read_u32-requires : goal.read_u32-requires
read_u32-requires c = query-has-thread (event_of c.args.event.now) (sym (ap is_query_kind c.requires) ∙ sym c.is_query.ensures ∙ c.if-is_query.true)
