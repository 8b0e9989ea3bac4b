use Rattle.blog_flash.proofs.Skipping.{skips-written}
use Rattle.blog_flash.proofs.written_events.WrittenGroupsWrittenEvents.skip_event.Goals as goal

pub returns-clause-first : goal.returns-clause-first
returns-clause-first g c = skips-written c.args.self.now.order c.args.self.now.events c.skip_event.result c.skip_event.new.self c.skip_event.ensures
