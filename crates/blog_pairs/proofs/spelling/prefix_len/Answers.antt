use Rattle.std.proofs.Common.{rules}
use Rattle.blog_pairs.proofs.Prefixes.{prefix_none}
use Rattle.blog_pairs.proofs.spelling.prefix_len.Goals as goal

pub returns-in_default : goal.returns-in_default
returns-in_default c = search (rules, prefix_none c.args.kind c.args.metadata.now)
