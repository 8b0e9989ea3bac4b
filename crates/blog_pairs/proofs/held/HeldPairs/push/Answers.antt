use Rattle.std.proofs.Common.{refl, ◌∙◌}
use Rattle.blog_pairs.proofs.Keeping.{kept_push, kept_same}
use Rattle.blog_pairs.proofs.held.HeldPairs.push.Goals as goal

pub returns-in_err-add_key-clause-kept : goal.returns-in_err-add_key-clause-kept
returns-in_err-add_key-clause-kept g c = λ bodies kept own. kept_same bodies c.args.self.now _ refl c.add_key.ensures.more kept

pub returns-in_err-push-clause-kept : goal.returns-in_err-push-clause-kept
returns-in_err-push-clause-kept g c = λ bodies kept own. kept_same bodies c.args.self.now _ c.in_err-push.ensures.items c.add_key.ensures.more kept

pub returns-clause-kept : goal.returns-clause-kept
returns-clause-kept g c = λ bodies kept own. kept_push bodies c.args.self.now _ c.args.pair c.args.print c.len-slot.result c.in_ok-push.ensures.items c.add_key.ensures.more
    (c.len-slot.ensures ∙ c.args.self.now.slots.ok.0) c.in_ok-add_key.ensures.has own kept
