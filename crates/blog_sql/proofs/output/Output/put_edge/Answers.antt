use Rattle.std.proofs.Common.{ℕ, ◌++◌, Bool, not, List, ap, ap₂, subst, ◌∙◌, arith}
use Rattle.std.proofs.lemmas.Result.{err_from_is_err_and}
use Rattle.blog_device.specs.Devices.{AppendsBeginning}
use Rattle.blog_device.specs.Watched.{device_of}
use Rattle.blog_event.specs.Event.{event_of, unplaced}
use Rattle.blog_sql.specs.code.Adding.{Adds}
use Rattle.blog_sql.specs.code.Walk.{edge}
use Rattle.blog_sql.proofs.Walking.{edge-prints, edge-broken, longer}
use Rattle.blog_sql.proofs.output.Output.put_edge.Goals as goal

pub returns-in_err-close-clause-beginning : goal.returns-in_err-close-clause-beginning
returns-in_err-close-clause-beginning g c =
    let p = err_from_is_err_and c.from_residual.result c.from_residual.ensures.1 in
    rw p.1 (λ ws. longer _ _ c.args.self.now.chunk.items _ _ c.in_err-close.ensures.beginning)

pub returns-in_err-append-clause-beginning : goal.returns-in_err-append-clause-beginning
returns-in_err-append-clause-beginning g c =
    let p = err_from_is_err_and c.from_residual-in_err-append.result c.from_residual-in_err-append.ensures.1 in
    let text = c.edge.ensures.value ∙ ap₂ edge c.in_ok-close.ensures.each c.in_ok-close.ensures.inside in
    let has = g.W.Write.contents (device_of c.close.new.writer) in
    let now = g.W.Write.contents (device_of c.append.new.writer) in
    rw p.1 (edge-broken _ has now c.args.self.now c.args.self.now c.close.new.self.chunk.items (unplaced (event_of c.args.event.now)) c.in_ok-close.ensures.adds
    (subst (λ (bytes : List ℕ). AppendsBeginning has now (c.close.new.self.chunk.items ++ bytes)) text c.in_err-append.ensures.beginning))

pub returns-clause-prints : goal.returns-clause-prints
returns-clause-prints g c =
    let text = c.edge.ensures.value ∙ ap₂ edge c.in_ok-close.ensures.each c.in_ok-close.ensures.inside in
    let has = g.W.Write.contents (device_of c.close.new.writer) in
    let now = g.W.Write.contents (device_of c.append.new.writer) in
    edge-prints _ has now c.args.self.now _ c.close.new.self.chunk.items (unplaced (event_of c.args.event.now)) c.in_ok-close.ensures.adds
    (subst (λ (bytes : List ℕ). Adds has now c.close.new.self.chunk.items c.append.new.chunk.items bytes) text c.in_ok-append.ensures.adds)
    c.in_ok-close.ensures.each (ap (λ (b : Bool). not b) c.in_ok-close.ensures.inside) (omega (arith, c.in_ok-close.ensures.pos)) c.in_ok-close.ensures.open c.in_ok-close.ensures.held
