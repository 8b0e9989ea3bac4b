use Rattle.std.proofs.Common.{◌≡◌, ℕ, ◌+◌, ◌-◌, [], ◌∷◌, ◌++◌, vec_len, refl, ap, ◌∙◌, arith}
use Rattle.std.proofs.lemmas.List.{length-take-le}
use Rattle.std.proofs.lemmas.Result.{err_from_is_err_and}
use Rattle.blog_device.specs.Watched.{device_of}
use Rattle.blog_flash.specs.Written.{event_written}
use Rattle.blog_flash.specs.code.LaidOut.{text_from}
use Rattle.blog_flash.specs.code.WrittenView.{written_told}
use Rattle.blog_sql.specs.Changed.{changed}
use Rattle.blog_sql.proofs.Walking.{event-prints, event-broken, longer}
use Rattle.blog_sql.proofs.output.Output.put_event.Goals as goal

pub returns-in_err-append-clause-beginning : goal.returns-in_err-append-clause-beginning
returns-in_err-append-clause-beginning g c =
    let p = err_from_is_err_and c.from_residual.result c.from_residual.ensures.1 in
    rw p.1 (λ ws. longer _ _ c.args.self.now.chunk.items _ _ (rw c.opening.ensures.value at c.in_err-append.ensures.beginning))

pub returns-in_err-done-clause-beginning : goal.returns-in_err-done-clause-beginning
returns-in_err-done-clause-beginning g c =
    let p = err_from_is_err_and c.from_residual-in_err-done.result c.from_residual-in_err-done.ensures.1 in
    let before = c.args.self.now in
    let e = event_written (changed c.args.how.now (written_told c.args.event.now)) in
    let all = c.put_changed.new.out.items in
    let at : before.pos - c.len-held.result + vec_len before.held ≡ before.pos = omega (arith, c.requires.room.within, c.len-held.ensures) in
    let is = c.put_changed.ensures.items ∙ ap (λ (n : ℕ). before.held.items ++ text_from n (e ∷ [])) at in
    let has = g.W.Write.contents (device_of c.append.new.writer) in
    let now = g.W.Write.contents (device_of c.put_full_lines.new.writer) in
    rw p.1 (event-broken _ has now before before c.append.new.chunk.items e all (rw c.opening.ensures.value at c.in_ok-append.ensures.adds) (rw c.deref.ensures.value at c.in_err-done.ensures.beginning) is)

pub returns-clause-inside : goal.returns-clause-inside
returns-clause-inside g c =
    let before = c.args.self.now in
    let e = event_written (changed c.args.how.now (written_told c.args.event.now)) in
    let all = c.put_changed.new.out.items in
    let at : before.pos - c.len-held.result + vec_len before.held ≡ before.pos = omega (arith, c.requires.room.within, c.len-held.ensures) in
    let is = c.put_changed.ensures.items ∙ ap (λ (n : ℕ). before.held.items ++ text_from n (e ∷ [])) at in
    let has = g.W.Write.contents (device_of c.append.new.writer) in
    let now = g.W.Write.contents (device_of c.put_full_lines.new.writer) in
    let within = rw c.deref.ensures.value at c.in_ok-done.ensures.within in
    event-prints _ has now before _ c.append.new.chunk.items e c.in_ok-done.done all (rw c.opening.ensures.value at c.in_ok-append.ensures.adds) (rw c.deref.ensures.value at c.in_ok-done.ensures.adds)
    is c.in_ok-done.ensures.full (length-take-le c.in_ok-done.done all within) refl refl (omega (arith, c.put_changed.ensures.len, c.len.ensures, c.len-held.ensures)) refl c.remove_front.ensures.items
