use Rattle.std.proofs.Common.{◌++◌, ℕ, List, OnOk, OnErr, sym, subst, ◌∙◌, arith}
use Rattle.blog_device.specs.Watched.{device_of}
use Rattle.blog_device.specs.Devices.{AppendsBeginning}
use Rattle.blog_sql.specs.code.Adding.{Adds}
use Rattle.blog_sql.proofs.Lines.{one-line}
use Rattle.blog_sql.proofs.base64_lines.put_full_line.Goals as goal

pub returns-clause-adds : goal.returns-clause-adds
returns-clause-adds g c =
    let m = c.args.bytes.now in
    let text = c.encoded_line.ensures ∙ sym (one-line m (omega (arith, c.requires.full)) (omega (arith, c.requires.full))) in
    subst (λ (b : List ℕ). OnOk c.append.result (Adds (g.W.Write.contents (device_of c.args.writer.now)) (g.W.Write.contents (device_of c.append.new.writer)) c.args.chunk.now.items c.append.new.chunk.items b)) text c.append.ensures.adds

pub returns-clause-beginning : goal.returns-clause-beginning
returns-clause-beginning g c =
    let m = c.args.bytes.now in
    let text = c.encoded_line.ensures ∙ sym (one-line m (omega (arith, c.requires.full)) (omega (arith, c.requires.full))) in
    subst (λ (b : List ℕ). OnErr c.append.result (AppendsBeginning (g.W.Write.contents (device_of c.args.writer.now)) (g.W.Write.contents (device_of c.append.new.writer)) (c.args.chunk.now.items ++ b))) text c.append.ensures.beginning
