use Rattle.std.proofs.Common.{◌+◌, max, drop, ap, sym, ◌∙◌, arith}
use Rattle.std.proofs.lemmas.List.{drop_all}
use Rattle.blog_event.specs.Event.{event_size}
use Rattle.blog_event.specs.File.{Placed}
use Rattle.blog_trans.specs.code.IndexView.{index_bytes, index_selection}
use Rattle.blog_trans.specs.Shown.{largest, shown}
use Rattle.blog_trans.proofs.Largest.{entry-shown, shown-many}
use Rattle.blog_trans.proofs.Turns.{drop-at}
use Rattle.blog_trans.proofs.groups.Index.largest.Goals as goal

pub event-requires : goal.event-requires
event-requires g c = let (p, at, of) = entry-shown c.args.self.now c.loop-n.n (omega arith) in (p, of)

pub loop-n-preserved : goal.loop-n-preserved
loop-n-preserved g c =
    let (p, at, of) = entry-shown c.args.self.now c.loop-n.n (omega arith) in
    let all = shown (index_bytes c.args.self.now) (index_selection c.args.self.now) in
    let size = c.event.ensures.size ∙ ap (λ (q : Placed). event_size q.event) (c.event.ensures.event p of) in
    ap (λ m. largest m (drop (c.loop-n.n + 1) all)) (c.max-most.ensures ∙ ap (max c.loop-n.most) size)
    ∙ sym (ap (largest c.loop-n.most) (drop-at all c.loop-n.n p at)) ∙ c.loop-n.invariant

pub returns : goal.returns
returns g c = grind (arith, drop_all, shown-many)
