use Rattle.std.proofs.Common.{rules}
use Rattle.blog_differences.proofs.Adding.{selected_none}
use Rattle.blog_differences.proofs.selected.add_event.Goals as goal

pub returns-in-Begin-clause-pairs : goal.returns-in-Begin-clause-pairs
returns-in-Begin-clause-pairs g c = search (rules, selected_none)
