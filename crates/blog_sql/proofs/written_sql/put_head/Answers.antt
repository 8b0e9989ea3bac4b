use Rattle.std.proofs.Common.{ℕ, List, ◌++◌, drop, subst}
use Rattle.std.proofs.lemmas.Result.{err_from_is_err_and, on_ok_weaker, on_err_weaker}
use Rattle.blog_device.specs.Devices.{AppendsBeginning}
use Rattle.blog_device.specs.Watched.{device_of}
use Rattle.blog_sql.specs.Sql.{base64_lines}
use Rattle.blog_sql.specs.code.Adding.{Adds}
use Rattle.blog_sql.specs.code.Walk.{after_format}
use Rattle.blog_sql.proofs.Adding.{adds-more, adds-broken}
use Rattle.blog_sql.proofs.Lines.{rest-is}
use Rattle.blog_sql.proofs.Walking.{longer}
use Rattle.blog_sql.proofs.Whole.{first_lines, head-parts}
use Rattle.blog_sql.proofs.written_sql.put_head.Goals as goal

pub returns-in_err-append-clause-beginning : goal.returns-in_err-append-clause-beginning
returns-in_err-append-clause-beginning g c =
    let had = g.W.Write.contents (device_of c.args.writer.now) in
    let has = g.W.Write.contents (device_of c.append.new.writer) in
    let p = err_from_is_err_and c.from_residual.result c.from_residual.ensures.1 in
    let x = c.args.chunk.now.items in
    let lines : List ℕ = base64_lines (drop 4 c.args.front.now) in
    rw p.1 (subst (λ (text : List ℕ). AppendsBeginning had has (x ++ text)) (head-parts c.args.each c.args.front.now)
    (longer had has x first_lines (lines ++ after_format c.args.each) c.in_err-append.ensures.beginning))

pub returns-in_err-put_lines-clause-beginning : goal.returns-in_err-put_lines-clause-beginning
returns-in_err-put_lines-clause-beginning g c =
    let had = g.W.Write.contents (device_of c.args.writer.now) in
    let has = g.W.Write.contents (device_of c.append.new.writer) in
    let now = g.W.Write.contents (device_of c.put_lines.new.writer) in
    let p = err_from_is_err_and c.from_residual-in_err-put_lines.result c.from_residual-in_err-put_lines.ensures.1 in
    let x = c.args.chunk.now.items in
    let y = c.append.new.chunk.items in
    let lines : List ℕ = base64_lines (drop 4 c.args.front.now) in
    let broken = subst (λ (bytes : List ℕ). AppendsBeginning has now (y ++ base64_lines bytes)) (rest-is 4 c.args.front.now) c.in_err-put_lines.ensures.beginning in
    rw p.1 (subst (λ (text : List ℕ). AppendsBeginning had now (x ++ text)) (head-parts c.args.each c.args.front.now)
    (adds-broken had has now x y first_lines (lines ++ after_format c.args.each) c.in_ok-append.ensures.adds (longer has now y lines (after_format c.args.each) broken)))

pub returns-clause-adds : goal.returns-clause-adds
returns-clause-adds g c =
    let had = g.W.Write.contents (device_of c.args.writer.now) in
    let has = g.W.Write.contents (device_of c.append.new.writer) in
    let now = g.W.Write.contents (device_of c.put_lines.new.writer) in
    let last = g.W.Write.contents (device_of c.append-2.new.writer) in
    let x = c.args.chunk.now.items in
    let y = c.append.new.chunk.items in
    let z = c.put_lines.new.chunk.items in
    let w = c.append-2.new.chunk.items in
    let lines : List ℕ = base64_lines (drop 4 c.args.front.now) in
    let second = subst (λ (bytes : List ℕ). Adds has now y z (base64_lines bytes)) (rest-is 4 c.args.front.now) c.in_ok-put_lines.ensures.adds in
    on_ok_weaker c.append-2.result (λ third. subst (Adds had last x w) (head-parts c.args.each c.args.front.now)
    (adds-more had has last x y w first_lines (lines ++ after_format c.args.each) c.in_ok-append.ensures.adds
    (adds-more has now last y z w lines (after_format c.args.each) second (rw c.after_format.ensures.value at third)))) c.append-2.ensures.adds

pub returns-clause-beginning : goal.returns-clause-beginning
returns-clause-beginning g c =
    let had = g.W.Write.contents (device_of c.args.writer.now) in
    let has = g.W.Write.contents (device_of c.append.new.writer) in
    let now = g.W.Write.contents (device_of c.put_lines.new.writer) in
    let last = g.W.Write.contents (device_of c.append-2.new.writer) in
    let x = c.args.chunk.now.items in
    let y = c.append.new.chunk.items in
    let z = c.put_lines.new.chunk.items in
    let lines : List ℕ = base64_lines (drop 4 c.args.front.now) in
    let second = subst (λ (bytes : List ℕ). Adds has now y z (base64_lines bytes)) (rest-is 4 c.args.front.now) c.in_ok-put_lines.ensures.adds in
    on_err_weaker c.append-2.result (λ third. subst (λ (text : List ℕ). AppendsBeginning had last (x ++ text)) (head-parts c.args.each c.args.front.now)
    (adds-broken had has last x y first_lines (lines ++ after_format c.args.each) c.in_ok-append.ensures.adds
    (adds-broken has now last y z lines (after_format c.args.each) second (rw c.after_format.ensures.value at third)))) c.append-2.ensures.beginning
