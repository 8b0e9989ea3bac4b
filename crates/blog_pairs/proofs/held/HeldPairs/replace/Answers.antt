use Rattle.std.proofs.Common.{refl, arith, ◌<◌, length}
use Rattle.std.specs.Prelude.{Some}
use Rattle.blog_pairs.proofs.Keeping.{kept_replaced, kept_same, kept_set}
use Rattle.blog_pairs.proofs.held.HeldPairs.replace.Goals as goal

pub returns-in_err-add_key-clause-kept : goal.returns-in_err-add_key-clause-kept
returns-in_err-add_key-clause-kept g c = λ bodies kept own. kept_same bodies c.args.self.now _ refl c.add_key.ensures.more kept

pub returns-then-old-new-clause-kept : goal.returns-then-old-new-clause-kept
returns-then-old-new-clause-kept g c = λ bodies kept own. kept_set bodies c.args.self.now _ c.args.slot (Some c.args.pair) refl c.add_key.ensures.more (c.args.new, own, c.in_ok-add_key.ensures.has) kept

pub returns-clause-kept : goal.returns-clause-kept
returns-clause-kept g c = λ bodies kept own.
    let within : c.args.slot < length c.args.self.now.slots.items = omega (arith, c.requires, c.args.self.now.slots.ok.0) in
    kept_replaced bodies c.args.self.now _ c.add_key.new.keys c.args.old c.args.slot (Some c.args.pair) refl c.add_key.ensures.more c.take_key.ensures within
    (c.args.new, own, c.in_ok-add_key.ensures.has, c.if-old-new.false) kept
