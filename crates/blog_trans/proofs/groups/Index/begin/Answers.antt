use Rattle.std.proofs.Common.{Some, option_map, sym, ap, ◌∙◌}
use Rattle.blog_trans.proofs.IndexFacts.{begin_read}
use Rattle.blog_trans.proofs.groups.Index.begin.Goals as goal

pub event-requires : goal.event-requires
event-requires g c = let (x, at, of) = begin_read c.args.self.now c.args.t c.begin_entry.result c.requires c.begin_entry.ensures in (x.begin, of)

pub returns-clause-event : goal.returns-clause-event
returns-clause-event g c =
    let (x, at, of) = begin_read c.args.self.now c.args.t c.begin_entry.result c.requires c.begin_entry.ensures in
    ap (option_map (λ x. x.begin)) at ∙ ap Some (sym (c.event.ensures.event x.begin of))
