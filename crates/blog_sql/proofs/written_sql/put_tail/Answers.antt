use Rattle.std.proofs.Common.{ℕ, List, ◌++◌, not, true, subst}
use Rattle.std.specs.Io.KnownBytes.{Appends}
use Rattle.std.proofs.lemmas.Result.{err_from_is_err_and, on_ok_weaker, on_err_weaker}
use Rattle.blog_device.specs.Devices.{AppendsBeginning}
use Rattle.blog_device.specs.Watched.{device_of}
use Rattle.blog_sql.specs.code.Walk.{edge}
use Rattle.blog_sql.proofs.Adding.{adds-more, adds-broken}
use Rattle.blog_sql.proofs.Walking.{longer}
use Rattle.blog_sql.proofs.Whole.{all-broken, all-written, last_line, tail-parts}
use Rattle.blog_sql.proofs.written_sql.put_tail.Goals as goal

pub returns-in_err-append-clause-beginning : goal.returns-in_err-append-clause-beginning
returns-in_err-append-clause-beginning g c =
    let had = g.W.Write.contents (device_of c.args.writer.now) in
    let has = g.W.Write.contents (device_of c.append.new.writer) in
    let p = err_from_is_err_and c.from_residual.result c.from_residual.ensures.1 in
    let x = c.args.chunk.now.items in
    rw p.1 (subst (λ (text : List ℕ). AppendsBeginning had has (x ++ text)) (tail-parts c.args.each)
    (longer had has x (edge (not c.args.each) true) last_line (rw c.edge.ensures.value at c.in_err-append.ensures.beginning)))

pub returns-in_err-append-2-clause-beginning : goal.returns-in_err-append-2-clause-beginning
returns-in_err-append-2-clause-beginning g c =
    let had = g.W.Write.contents (device_of c.args.writer.now) in
    let has = g.W.Write.contents (device_of c.append.new.writer) in
    let now = g.W.Write.contents (device_of c.append-2.new.writer) in
    let p = err_from_is_err_and c.from_residual-in_err-append-2.result c.from_residual-in_err-append-2.ensures.1 in
    let x = c.args.chunk.now.items in
    rw p.1 (subst (λ (text : List ℕ). AppendsBeginning had now (x ++ text)) (tail-parts c.args.each)
    (adds-broken had has now x c.append.new.chunk.items (edge (not c.args.each) true) last_line (rw c.edge.ensures.value at c.in_ok-append.ensures.adds) c.in_err-append-2.ensures.beginning))

pub returns-clause-written : goal.returns-clause-written
returns-clause-written g c =
    let had = g.W.Write.contents (device_of c.args.writer.now) in
    let has = g.W.Write.contents (device_of c.append.new.writer) in
    let now = g.W.Write.contents (device_of c.append-2.new.writer) in
    let last = g.W.Write.contents (device_of c.put.new.writer) in
    let x = c.args.chunk.now.items in
    let z = c.append-2.new.chunk.items in
    let sum = adds-more had has now x c.append.new.chunk.items z (edge (not c.args.each) true) last_line (rw c.edge.ensures.value at c.in_ok-append.ensures.adds) c.in_ok-append-2.ensures.adds in
    on_ok_weaker c.put.result (λ written. subst (λ (text : List ℕ). Appends had last (x ++ text)) (tail-parts c.args.each) (all-written had now last x z _ sum (rw c.deref.ensures.value at written))) c.put.ensures.written

pub returns-clause-beginning : goal.returns-clause-beginning
returns-clause-beginning g c =
    let had = g.W.Write.contents (device_of c.args.writer.now) in
    let has = g.W.Write.contents (device_of c.append.new.writer) in
    let now = g.W.Write.contents (device_of c.append-2.new.writer) in
    let last = g.W.Write.contents (device_of c.put.new.writer) in
    let x = c.args.chunk.now.items in
    let z = c.append-2.new.chunk.items in
    let sum = adds-more had has now x c.append.new.chunk.items z (edge (not c.args.each) true) last_line (rw c.edge.ensures.value at c.in_ok-append.ensures.adds) c.in_ok-append-2.ensures.adds in
    on_err_weaker c.put.result (λ broken. subst (λ (text : List ℕ). AppendsBeginning had last (x ++ text)) (tail-parts c.args.each) (all-broken had now last x z _ sum (rw c.deref.ensures.value at broken))) c.put.ensures.beginning
