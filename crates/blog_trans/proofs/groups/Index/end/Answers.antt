use Rattle.std.proofs.Common.{Some, option_map, sym, ap, ◌∙◌}
use Rattle.blog_trans.proofs.IndexFacts.{end_read}
use Rattle.blog_trans.proofs.groups.Index.end.Goals as goal

pub event-requires : goal.event-requires
event-requires g c = let (x, at, of) = end_read c.args.self.now c.args.t c.end_entry.result c.requires c.end_entry.ensures in (x.end, of)

pub returns-clause-event : goal.returns-clause-event
returns-clause-event g c =
    let (x, at, of) = end_read c.args.self.now c.args.t c.end_entry.result c.requires c.end_entry.ensures in
    ap (option_map (λ x. x.end)) at ∙ ap Some (sym (c.event.ensures.event x.end of))
