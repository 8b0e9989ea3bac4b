use Rattle.std.proofs.Common.{refl, arith, ◌<◌, length}
use Rattle.std.specs.Prelude.{None}
use Rattle.blog_pairs.proofs.Keeping.{kept_replaced}
use Rattle.blog_pairs.proofs.held.HeldPairs.clear.Goals as goal

pub returns-clause-kept : goal.returns-clause-kept
returns-clause-kept g c = λ bodies kept.
    let within : c.args.slot < length c.args.self.now.slots.items = omega (arith, c.requires, c.args.self.now.slots.ok.0) in
    kept_replaced bodies c.args.self.now _ c.args.self.now.keys c.args.print c.args.slot None refl (λ q h. h) c.take_key.ensures within tt kept
