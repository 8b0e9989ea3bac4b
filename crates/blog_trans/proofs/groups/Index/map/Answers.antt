use Rattle.std.proofs.Common.{◌+◌, Some, is_some, sym, ap, ◌∙◌, arith}
use Rattle.std.proofs.lemmas.Option.{slice_get_within}
use Rattle.blog_event.specs.File.{Placed}
use Rattle.blog_row.specs.TableMap.{names_of}
use Rattle.blog_trans.proofs.EntriesFound.{list_some}
use Rattle.blog_trans.proofs.IndexFacts.{map_known, map_read}
use Rattle.blog_trans.specs.code.IndexView.{index_groups, statement_at}
use Rattle.blog_trans.proofs.groups.Index.map.Goals as goal

pub statement-requires : goal.statement-requires
statement-requires g c = list_some (λ x. x.maps) (statement_at (index_groups c.args.self.now) c.args.t c.args.s) c.args.m c.requires

pub overflow_add-statement : goal.overflow_add-statement
overflow_add-statement g c = grind (arith, map_read, slice_get_within)

pub event-event-requires : goal.event-event-requires
event-event-requires g c =
    let (p, is, of) = map_read c.args.self.now c.args.t c.args.s c.args.m (c.statement.result.entry + c.args.m) c.requires (ap (λ n. n + c.args.m) c.statement.ensures.entry) in
    (p, of)

pub known-requires : goal.known-requires
known-requires g c =
    let (p, is, of) = map_read c.args.self.now c.args.t c.args.s c.args.m (c.statement.result.entry + c.args.m) c.requires (ap (λ n. n + c.args.m) c.statement.ensures.entry) in
    ap (λ (q : Placed). is_some (names_of q.event.body)) (c.event-event.ensures.event p of) ∙ ap is_some (map_known c.args.self.now c.args.t c.args.s c.args.m p is).names_are

pub returns-clause-event : goal.returns-clause-event
returns-clause-event g c =
    let (p, is, of) = map_read c.args.self.now c.args.t c.args.s c.args.m (c.statement.result.entry + c.args.m) c.requires (ap (λ n. n + c.args.m) c.statement.ensures.entry) in
    is ∙ ap Some (sym (c.event-event.ensures.event p of))
